-- What a step tells of a blob: that it leads to a position, or the fault of it.
use Rattle.std.proofs.Common.{◌≡◌, ◌≤◌, ◌⊎◌, inl, inr, ℕ, ℤ, List, [], length, map, Option, Some, None, Result, Ok, Err, IfSome, refl, sym, ap, ◌∙◌, subst, lit≤}
use Rattle.std.specs.Prelude.{All}
use Rattle.std.proofs.lemmas.List.{length-map}
use Rattle.std.proofs.lemmas.List.Elements.{All-nil}
use Rattle.hol_io.specs.declared.name.BlobName.{BlobName}
use Rattle.hol_io.specs.Store.{Store, told}
use Rattle.schema_model.specs.declared.limit.Limit.TheVariants.{Blob}
use Rattle.schema_model.specs.declared.model.rule.Rule.TheVariants.{DuplicateName}
use Rattle.schema_model.specs.Limit.{number_of_limit}
use Rattle.schema_model.specs.Model.{IsKept}
use Rattle.row_model.specs.Table.{Table}
use Rattle.type_state.specs.State.{Half, State}
use Rattle.type_state.specs.Views.{table_of}
use Rattle.blob_frame.specs.declared.fault.BlobFault.{BlobFault}
use Rattle.blob_frame.specs.declared.fault.BlobFault.TheVariants as fault
use Rattle.blob_frame.specs.declared.header.Header.{Header}
use Rattle.blob_frame.specs.Header.{HeaderIs}
use Rattle.blob_cursor.specs.Scene.{IsFree}
use Rattle.blob_faults.specs.Judge.{◌>>=◌}
use Rattle.delta_blob.specs.declared.patch.Patch.{Patch}
use Rattle.delta_blob.specs.declared.patch.PatchPart.{PatchPart}
use Rattle.delta_blob.specs.Fits.{Fits}
use Rattle.delta_blob.specs.Judged.{delta_of}
use Rattle.delta_blob.specs.Moved.{Moved}
use Rattle.delta_blob.specs.Patch.{TypePatch}
use Rattle.delta_blob.specs.Reads.{IsPatchAt, TellsDelta}
use Rattle.delta_blob.proofs.DeltaTelling.{delta_passes}
use Rattle.delta_blob.proofs.GivenParts.{IsGivenPart, body_given}
use Rattle.delta_blob.proofs.PatchTelling.{patch_passes}
use Rattle.delta_blob.proofs.WholeDeltas.{joined}
use Rattle.state_moves.specs.Halves.{current_halves}
use Rattle.state_moves.specs.Judged.{IsFreeMove, state_moved}
use Rattle.state_moves.specs.Moving.{coming_halves}
use Rattle.state_moves.proofs.Changed.{coming_long}
use Rattle.read_engine.specs.Judged.{RefusesStep, step_of}
use Rattle.read_engine.specs.Position.{IsPosition, IsWalkOf, Position, rows_now}
use Rattle.read_engine.specs.Taken.{BlamesParts, CountsTaken, IsTaken}
use Rattle.read_engine.specs.Walks.{without_walks}
use Rattle.read_engine.specs.Taking.{CountsPart, StepsBy, TellsStep, layout_at}
use Rattle.read_engine.proofs.Patches as patches

-- ---- a step that is taken

module _ (blob : List ℕ) (n : ℕ) (head : Header) (named : List PatchPart) (from to : Position) (position : IsPosition from) (taken : IsTaken head.destination named from to) (read : IsPatchAt blob n from.schemas named)
    (begins : HeaderIs blob n head) (short : length blob ≤ number_of_limit Blob) (origin : head.origin ≡ from.tag) where
  abbrev pub mid : List State
  mid = taken.mid

  abbrev pub apart : IsKept from.schemas DuplicateName
  apart = position.model DuplicateName

  abbrev pub are : map (λ (s : State). s.schema) mid ≡ from.schemas
  are = taken.moves.stays.schemas ∙ taken.at.schemas

  abbrev pub given : All IsGivenPart read.0
  given = body_given blob n read.0 (length blob) read.1

  abbrev pub patch : List TypePatch
  patch = patches.patch from.schemas mid taken.named taken.past named read.0 apart read.2 taken.moves.moved are given

  old_is : table_of (current_halves mid) ≡ rows_now from
  old_is = ap table_of (taken.moves.stays.halves ∙ taken.at.halves)

  lengths : length (coming_halves mid taken.named) ≡ length from.halves
  lengths =
      sym (length-map (coming_halves mid taken.named) (λ (h : Half). h.rows))
      ∙ coming_long mid taken.named taken.moves.moved.named_long
      ∙ sym (length-map mid (λ (s : State). s.current))
      ∙ ap length (taken.moves.stays.halves ∙ taken.at.halves)

  pub steps_by : StepsBy blob from to
  steps_by = subst (StepsBy blob from) (sym taken.is) record {
    patch = patch;
    is = record {
      head = head;
      parts = read.0;
      items = record { items = joined blob head n read.0 begins read.1; once = read.2.once };
      from_tag = origin;
      to_tag = refl;
      agree = read.2.agree;
      sees = patches.is_patch from.schemas mid taken.named taken.past named read.0 apart read.2 taken.moves.moved are given;
    };
    fits = subst (λ (t : Table). Fits from.schemas t patch) old_is (patches.fits_patch from.schemas mid taken.named taken.past named read.0 apart read.2 taken.moves.moved are given taken.moves.closed);
    moved = subst (λ (t : Table). Moved patch t (table_of (coming_halves mid taken.named))) old_is (patches.moves_patch from.schemas mid taken.named taken.past named read.0 apart read.2 taken.moves.moved are given);
    within = patches.within_patch from.schemas mid taken.named taken.past named read.0 apart read.2 taken.moves.moved are given;
    items = λ k d inside. (read.2.counts k d inside).items;
    short = short;
    model = refl;
    types = lengths;
    layouts = patches.layouts_of_patch from.schemas mid taken.named taken.past named read.0 apart read.2 taken.moves.moved are given;
    others = λ t inside none.
        patches.other_layouts from.schemas mid taken.named taken.past named read.0 apart read.2 taken.moves.moved are given t inside none
        ∙ ap (λ (hs : List Half). layout_at hs t) (taken.moves.stays.halves ∙ taken.at.halves);
    before = refl;
    indexes = refl;
    walks = taken.keeps;
  }

-- ---- a step that is refused

module _ (blob : List ℕ) (from : Position) where
  -- a delta that is at fault
  delta_fails : (found : BlobFault) → (delta_of blob from.tag from.schemas).Fails found → (step_of blob from).Fails found
  unfolding step_of ◌>>=◌
  delta_fails found fails = inl fails

  -- behind one that passes, the fault of its parts
  parts_fail : (head : Header) (named : List PatchPart) (found : BlobFault) → (delta_of blob from.tag from.schemas).Passes (head, named)
      → (state_moved from.schemas named (length blob) (rows_now from)).Fails found → (step_of blob from).Fails found
  unfolding step_of ◌>>=◌
  parts_fail head named found passes fails = inr ((head, named), passes, inl fails)

-- want of memory is a free answer
free_move : (found : BlobFault) → IsFreeMove found → IsFree found
free_move fault.Memory free = tt
free_move _ free = absurd free

-- ---- what is told of what a name holds

module _ (name : BlobName) (from : Position) where
  refused : (content : Option (List ℕ)) (found : BlobFault) → TellsDelta name from.tag from.schemas content (Err found) → RefusesStep name content from found ⊎ IsFree found
  refused None found (inl is) = let same : found ≡ fault.NoBlob name = cc in inl same
  refused None found (inr free) = inr free
  refused (Some blob) found (inl fails) = inl (delta_fails blob from found fails)
  refused (Some blob) found (inr free) = inr free

  -- a delta that cannot be read against the model
  pub refused_told : (held : Option Store) (now : Option Position) (found : BlobFault) (answer : Result (Unit {0}) BlobFault) → answer ≡ Err found
      → IfSome held (λ store. TellsDelta name from.tag from.schemas (told held name) (Err found)) → IfSome held (λ store. TellsStep name (told held name) from now answer)
  refused_told None now found answer is tells = tt
  refused_told (Some store) now found answer is tells = subst (TellsStep name (told (Some store) name) from now) (sym is) (refused (told (Some store) name) found tells)

  module _ (position : IsPosition from) (patch : Patch) where
    steps_along : (blob : List ℕ) (to : Position) → TellsDelta name from.tag from.schemas (Some blob) (Ok patch) → IsTaken patch.destination patch.parts from to → StepsBy blob from to
    steps_along blob to (head, n, begins, origin, destination, size, short, is) taken =
        steps_by blob n head patch.parts from to position (subst (λ (tag : ℤ). IsTaken tag patch.parts from to) (sym destination) taken) is begins short origin

    parts_refused : (blob : List ℕ) (found : BlobFault) → TellsDelta name from.tag from.schemas (Some blob) (Ok patch) → BlamesParts patch.length patch.parts found from → RefusesStep name (Some blob) from found ⊎ IsFree found
    parts_refused blob found (head, n, begins, origin, destination, size, short, is) (inl fails) =
        let passes = delta_passes blob from.tag from.schemas head n short begins patch.parts origin (patch_passes from.schemas position.model blob n patch.parts is) in
        inl (parts_fail blob from head patch.parts found passes (subst (λ (k : ℕ). (state_moved from.schemas patch.parts k (rows_now from)).Fails found) (sym size) fails))
    parts_refused blob found tells (inr free) = inr (free_move found free)

    there : (content : Option (List ℕ)) → TellsDelta name from.tag from.schemas content (Ok patch) → (blob : List ℕ) × (content ≡ Some blob) × TellsDelta name from.tag from.schemas (Some blob) (Ok patch)
    there None (inl other) = absurd cc
    there None (inr free) = absurd free
    there (Some blob) tells = (blob, refl, tells)

    -- a delta whose parts are taken
    pub taken_told : (held : Option Store) (to : Position) → IfSome held (λ store. TellsDelta name from.tag from.schemas (told held name) (Ok patch)) → IsTaken patch.destination patch.parts from to
        → IfSome held (λ store. TellsStep name (told held name) from (Some to) (Ok tt))
    taken_told None to tells taken = tt
    taken_told (Some store) to tells taken = let (blob, is, read) = there (told (Some store) name) tells in (blob, to, is, refl, steps_along blob to read taken)

    -- a delta whose parts are not taken
    pub untaken_told : (held : Option Store) (now : Option Position) (found : BlobFault) → IfSome held (λ store. TellsDelta name from.tag from.schemas (told held name) (Ok patch)) → BlamesParts patch.length patch.parts found from
        → IfSome held (λ store. TellsStep name (told held name) from now (Err found))
    untaken_told None now found tells blames = tt
    untaken_told (Some store) now found tells blames =
        let (blob, is, read) = there (told (Some store) name) tells in
        subst (λ (content : Option (List ℕ)). TellsStep name content from now (Err found)) (sym is) (parts_refused blob found read blames)

-- a position is one without its walk indexes too
without_position : (from : Position) → IsPosition from → IsPosition (without_walks from)
without_position from is = record {
  model = is.model;
  rows = is.rows;
  closed = is.closed;
  rows_before = is.rows_before;
  closed_before = is.closed_before;
  indexes = is.indexes;
  few = is.few;
  walks = All-nil (IsWalkOf from.schemas);
  few_walks = lit≤ tt;
}

-- what is counted where memory is refused
pub part_counted : (name : BlobName) (from : Position) → IsPosition from → (read : Patch) (held : Option Store) (before after : ℕ) → IfSome held (λ store. TellsDelta name from.tag from.schemas (told held name) (Ok read))
    → (after ≡ before) ⊎ CountsTaken read.destination read.parts from before after → IfSome held (λ store. (after ≡ before) ⊎ CountsPart (told held name) from before after)
part_counted name from position read None before after tells counts = tt
part_counted name from position read (Some store) before after tells (inl same) = inl same
part_counted name from position read (Some store) before after tells (inr (to, taken, most)) =
    let (blob, is, tells_it) = there name from position read (told (Some store) name) tells in
    inr (blob, to, is, steps_along name (without_walks from) (without_position from position) read blob to tells_it taken, most)
