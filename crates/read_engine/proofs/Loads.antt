-- What a load leaves: where it stands, and what is told of the blob.
use Rattle.std.proofs.Common.{◌≡◌, ◌⊎◌, inl, inr, ℕ, ℤ, List, [], length, map, Option, Some, None, Result, Ok, Err, IfSome, refl, sym, ap, ◌∙◌, subst, lit≤, replicate}
use Rattle.std.specs.List.{AllZip}
use Rattle.std.proofs.lemmas.List.Elements.{All-nil}
use Rattle.hol_io.specs.declared.name.BlobName.{BlobName}
use Rattle.hol_io.specs.Store.{Store, told}
use Rattle.schema_model.specs.Model.{IsModel}
use Rattle.type_state.specs.State.{State}
use Rattle.type_state.specs.Views.{next_halves, table_of}
use Rattle.blob_frame.specs.declared.fault.BlobFault.{BlobFault}
use Rattle.blob_frame.specs.declared.fault.BlobFault.TheVariants as fault
use Rattle.blob_cursor.specs.Scene.{IsFree}
use Rattle.snapshot_blob.specs.declared.body.Body.{Body}
use Rattle.snapshot_blob.specs.declared.loaded.Loaded.{Loaded}
use Rattle.snapshot_blob.specs.Body.{IsWholeBody}
use Rattle.snapshot_blob.specs.Snapshot.{TellsSnapshot}
use Rattle.row_model.specs.Before.{FitsPast, PastPart, no_part, table_before}
use Rattle.read_engine.specs.Kept.{IsKept, IsWalkKept}
use Rattle.read_engine.specs.Position.{IsIndexOf, IsPosition, IsWalkOf, Position}
use Rattle.state_moves.specs.Halves.{current_halves}
use Rattle.read_engine.specs.Standing.{IsStanding, position_of}
use Rattle.read_engine.specs.Judged.{RefusesLoad}
use Rattle.read_engine.specs.Taking.{TellsLoaded, loaded_position}
use Rattle.state_moves.proofs.Unchanged.{all_fit_none, same_table}

-- ---- where a load stands

module _ (tag : ℤ) (body : Body) (states : List State) (past : List PastPart) (whole : IsWholeBody body) (model : IsModel body.model) (none : past ≡ replicate (length body.model) no_part)
    (halves : current_halves states ≡ next_halves body.states) (schemas : map (λ (s : State). s.schema) states ≡ map (λ (s : State). s.schema) body.states) where
  here : table_of (current_halves states) ≡ table_of (next_halves body.states)
  here = ap table_of halves

  long : length (table_of (current_halves states)) ≡ length body.model
  long = ap length here ∙ whole.next.fits.types

  before : table_before (table_of (current_halves states)) past ≡ table_of (current_halves states)
  before = ap (table_before (table_of (current_halves states))) none ∙ same_table (length body.model) (table_of (current_halves states)) long

  pub position_is : position_of tag body.model states past [] [] ≡ loaded_position tag body
  position_is = λ i. record { tag = tag; schemas = body.model; halves = halves i; before = (before ∙ here) i; indexes = []; walks = [] }

  pub stands : IsStanding tag body.model states past [] []
  stands = record {
    named = schemas ∙ whole.next.named;
    fits = subst (AllZip FitsPast (table_of (current_halves states))) (sym none) (all_fit_none (length body.model) (table_of (current_halves states)) long);
    position = subst IsPosition (sym position_is) record {
      model = model;
      rows = whole.next.fits;
      closed = whole.closed;
      rows_before = whole.next.fits;
      closed_before = whole.closed;
      indexes = All-nil (IsIndexOf body.model);
      few = lit≤ tt;
      walks = All-nil (IsWalkOf body.model);
      few_walks = lit≤ tt;
    };
    indexes = All-nil (IsKept body.model (table_of (current_halves states)));
    walks = All-nil (IsWalkKept body.model (table_of (current_halves states)));
  }

-- ---- what is told of the blob

module _ (name : BlobName) where
  refused : (content : Option (List ℕ)) (found : BlobFault) → TellsSnapshot name content (Err found) → RefusesLoad name content found ⊎ IsFree found
  refused None found (inl is) = let same : found ≡ fault.NoBlob name = cc in inl same
  refused None found (inr free) = inr free
  refused (Some blob) found blames = blames

  -- a snapshot that is refused
  pub refused_told : (held : Option Store) (found : BlobFault) (answer : Result (Option Position) BlobFault) → answer ≡ Err found → IfSome held (λ store. TellsSnapshot name (told held name) (Err found))
      → IfSome held (λ store. TellsLoaded name (told held name) answer)
  refused_told None found answer is tells = tt
  refused_told (Some store) found answer is tells = subst (TellsLoaded name (told (Some store) name)) (sym is) (refused (told (Some store) name) found tells)

  loads : (content : Option (List ℕ)) (loaded : Loaded) (now : Option Position) → now ≡ Some (loaded_position loaded.header.destination (record { model = loaded.model; states = loaded.states })) → TellsSnapshot name content (Ok loaded)
      → TellsLoaded name content (Ok now)
  loads None loaded now is (inl other) = absurd cc
  loads None loaded now is (inr free) = absurd free
  loads (Some blob) loaded now is accepted = (blob, loaded_position loaded.header.destination (record { model = loaded.model; states = loaded.states }), refl, is, (loaded.header, accepted, refl, refl, refl, refl))

  -- a snapshot that is loaded
  pub loaded_told : (held : Option Store) (loaded : Loaded) (now : Option Position) → now ≡ Some (loaded_position loaded.header.destination (record { model = loaded.model; states = loaded.states }))
      → IfSome held (λ store. TellsSnapshot name (told held name) (Ok loaded)) → IfSome held (λ store. TellsLoaded name (told held name) (Ok now))
  loaded_told None loaded now is tells = tt
  loaded_told (Some store) loaded now is tells = loads (told (Some store) name) loaded now is tells
