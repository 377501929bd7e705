-- A consumer whose rows are of its model: it is so behind each load, and behind each step from one that is so.
use Rattle.std.proofs.Common.{◌≡◌, ◌<◌, ◌⊎◌, ℕ, zero, suc, List, [], ◌∷◌, length, Option, Some, None, inl, inr, refl, sym, ap, subst, ◌∙◌}
use Rattle.std.specs.Prelude.{All, IfSome, slice_get}
use Rattle.std.specs.FinMap.{get}
use Rattle.std.specs.List.{AllZip}
use Rattle.std.proofs.lemmas.Bool.{cases_eq}
use Rattle.std.proofs.lemmas.List.{length-map}
use Rattle.std.proofs.lemmas.Option.{slice_get_within}
use Rattle.std.proofs.lemmas.List.Elements.{All-cons, All-head, All-nil, All-tail}
use Rattle.schema_model.specs.declared.model.rule.Rule.TheVariants.{DuplicateName}
use Rattle.row_model.specs.declared.row.Row.{Row}
use Rattle.schema_model.specs.declared.schema.Schema.{Schema}
use Rattle.schema_model.specs.Model.{IsKept}
use Rattle.row_model.specs.Row.{FitsShape}
use Rattle.row_model.specs.Table.{EachRow, RowMap, Table, row_at}
use Rattle.row_model.specs.BothStates.{rows_in}
use Rattle.row_model.proofs.RowsFrom.{get_in}
use Rattle.type_rows.specs.Patches.{AddsRows, MovesRows}
use Rattle.type_state.specs.State.{Half}
use Rattle.type_state.specs.Views.{table_of}
use Rattle.type_rows.proofs.MovedRows.{moved_all}
use Rattle.type_rows.proofs.SectionRows.{row_fits, rows_fit}
use Rattle.seen_patches.proofs.Patched.{ordinals_kept, rows_seen}
use Rattle.seen_patches.proofs.SomeSeen.{each_seen}
use Rattle.snapshot_blob.specs.declared.part.TypePart.{TypePart}
use Rattle.snapshot_blob.specs.Stated.{TypeIs, schemas_of}
use Rattle.delta_blob.specs.declared.part.DeltaPart.{DeltaPart}
use Rattle.delta_blob.specs.Moved.{EachNamed, IsUnnamed, MovesType}
use Rattle.delta_blob.specs.Patch.{PartIs, TypePatch, parts_for}
use Rattle.delta_blob.proofs.OnePatch.{delta_given}
use Rattle.delta_blob.proofs.SeenParts.{IsPlainPart, there_plain}
use Rattle.read_engine.specs.Position.{IsPosition, Position, rows_now}
use Rattle.read_engine.specs.Taking.{LoadsFrom, StepsBy}
use Rattle.written_laws.specs.Chain.{Chain, IsChain}
use Rattle.written_laws.proofs.SeenStates.{seen_table}
use Rattle.chain_laws.specs.Consumers.{IsConsumerOf}

-- each row fits its type
abbrev pub FitTypes : List Schema → Table → Type 0
FitTypes schemas table = EachRow schemas table (λ schema row. FitsShape schema.shape row)

-- a consumer whose rows are of its model, in which no name stands twice
pub record IsTyped (now : Position) : Type 0 where
  pub names : IsKept now.schemas DuplicateName
  pub types : length (rows_now now) ≡ length now.schemas
  pub rows : FitTypes now.schemas (rows_now now)

-- it is so of each position
pub typed_if : (consumer : Option Position) → IfSome consumer IsPosition → IfSome consumer IsTyped
typed_if None is = tt
typed_if (Some now) is = record { names = is.model DuplicateName; types = is.rows.types; rows = is.rows.rows }

-- and of one that sees a state of a chain
pub typed_in : (chain : Chain) (consumer : Option Position) → IsChain chain → IsConsumerOf chain consumer → IfSome consumer IsTyped
typed_in chain None sound of = tt
typed_in chain (Some now) sound of =
    let home = sound.sound of.home.version of.home.state of.home.there in
    let seen = seen_table chain now.schemas of.version of.state sound of.there of.quiet in
    record {
      names = subst (λ (m : List Schema). IsKept m DuplicateName) of.home.model (home.model DuplicateName);
      types = ap (λ (t : Table). length t) of.sees.rows ∙ seen.types;
      rows = subst (λ (t : Table). FitTypes now.schemas t) (sym of.sees.rows) seen.rows;
    }

zip_count : {X Y : Type 0} (R : X → Y → Type 0) (xs : List X) (ys : List Y) → AllZip R xs ys → length xs ≡ length ys
zip_count R [] [] are = refl
zip_count R [] (y ∷ ys) are = absurd are
zip_count R (x ∷ xs) [] are = absurd are
zip_count R (x ∷ xs) (y ∷ ys) are = ap suc (zip_count R xs ys are.1)

rows_count : (position : Position) → length (rows_now position) ≡ length position.halves
rows_count position = length-map position.halves (λ (half : Half). half.rows)

-- ---- loads

loaded_fit : (parts : List TypePart) (halves : List Half) → AllZip TypeIs parts halves → FitTypes (schemas_of parts) (table_of halves)
loaded_fit [] halves are type_index ordinal schema row is at = absurd cc
loaded_fit (part ∷ parts) [] are type_index ordinal schema row is at = absurd are
loaded_fit (part ∷ parts) (half ∷ halves) are zero ordinal schema row is at =
    let of : part.schema ≡ schema = cc in
    subst (λ (s : Schema). FitsShape s.shape row) of (rows_fit part.schema.shape part.section half.rows ordinal row are.0.rows at)
loaded_fit (part ∷ parts) (half ∷ halves) are (suc type_index) ordinal schema row is at = loaded_fit parts halves are.1 type_index ordinal schema row is at

pub load_typed : (blob : List ℕ) (position : Position) → LoadsFrom blob position → IsTyped position
load_typed blob position (head, accepted, tag, before, bare, unwalked) =
    let state = accepted.1.state in
    record {
      names = state.model DuplicateName;
      types = rows_count position ∙ sym (zip_count TypeIs accepted.0 position.halves state.types) ∙ sym (length-map accepted.0 (λ (part : TypePart). part.schema))
          ∙ ap (λ (schemas : List Schema). length schemas) state.named;
      rows = subst (λ (schemas : List Schema). FitTypes schemas (rows_now position)) state.named (loaded_fit accepted.0 position.halves state.types);
    }

-- ---- steps

module _ (schemas : List Schema) (old new : Table) (t : ℕ) where
  -- the part of a delta that moves the type
  record IsMovedBy (part : DeltaPart) (named : TypePatch) : Type 0 where
    is : PartIs schemas part named
    plain : IsPlainPart part
    at : named.type_index ≡ t
    moves : MovesType old new t named

  moved_or_unnamed : (parts : List DeltaPart) (patch : List TypePatch) → AllZip (PartIs schemas) parts patch → All IsPlainPart parts → EachNamed patch (MovesType old new)
      → ((part : DeltaPart) × (named : TypePatch) × IsMovedBy part named) ⊎ IsUnnamed patch t
  moved_or_unnamed parts [] are plain each = inr (All-nil (λ named. named.type_index ≡ t → ⊥))
  moved_or_unnamed [] (named ∷ patch) are plain each = absurd are
  moved_or_unnamed (part ∷ parts) (named ∷ patch) are plain each =
      elim (cases_eq named.type_index t) [
        | inl here ↦
            inl (
              part,
              named,
              record {
                is = are.0;
                plain = All-head IsPlainPart part parts plain;
                at = here;
                moves = subst (λ (k : ℕ). MovesType old new k named) here (All-head (λ n. MovesType old new n.type_index n) named patch each);
              },
            )
        | inr apart ↦
            elim (moved_or_unnamed parts patch are.1 (All-tail IsPlainPart part parts plain) (All-tail (λ n. MovesType old new n.type_index n) named patch each)) [
              | inl found ↦ inl found
              | inr none ↦ inr (All-cons (λ n. n.type_index ≡ t → ⊥) named patch apart none)
            ]
      ]

  -- the schema of its patch is that of the type
  its_schema : (part : DeltaPart) (named : TypePatch) → IsMovedBy part named → slice_get schemas t ≡ Some named.schema
  its_schema part named moved = subst (λ (k : ℕ). slice_get schemas k ≡ Some named.schema) moved.at moved.is.means.stands

  moved_fit : (part : DeltaPart) (named : TypePatch) → IsMovedBy part named → ((ordinal : ℕ) (row : Row) → row_at old t ordinal ≡ Some row → FitsShape named.schema.shape row) → (ordinal : ℕ) (row : Row) → row_at new t ordinal ≡ Some row
      → FitsShape named.schema.shape row
  moved_fit part named moved before ordinal row at =
      let shape = named.schema.shape in
      let (section, is) = each_seen shape part.schema.shape part.section moved.is.means.agree in
      let ordinals = ordinals_kept shape part.schema.shape part.section section is in
      let adds : AddsRows shape section named.rows = (rows_seen shape part.schema.shape part.section section named.rows moved.is.means.agree moved.plain.apart moved.plain.given.columns is).1 moved.is.spelled in
      let moves : MovesRows (rows_in old t) (rows_in new t) section.removed section.added named.rows =
      subst (λ (xs : List ℕ). MovesRows (rows_in old t) (rows_in new t) xs section.added named.rows) (moved.is.removed ∙ sym ordinals.removed)
      (subst (λ (xs : List ℕ). MovesRows (rows_in old t) (rows_in new t) named.removed xs named.rows) (moved.is.added ∙ sym ordinals.added) moved.moves) in
      moved_all (FitsShape shape) shape section (rows_in old t) (rows_in new t) named.rows adds moves (λ o r is. before o r (sym (get_in old t o) ∙ is))
      (λ place r inside spelled. row_fits shape _ place r spelled) ordinal row (get_in new t ordinal ∙ at)

steps_fit : (blob : List ℕ) (now to : Position) → IsTyped now → StepsBy blob now to → FitTypes now.schemas (rows_now to)
steps_fit blob now to typed steps t ordinal schema row is at =
    let parts = steps.is.parts in
    let plain = there_plain now.schemas parts steps.is.items.once (delta_given blob now.schemas now.tag to.tag steps.patch steps.is) in
    elim (moved_or_unnamed now.schemas (rows_now now) (rows_now to) t (parts_for now.schemas parts) steps.patch steps.is.sees plain steps.moved.named) [
      | inl (part, named, moved) ↦
          (let there = its_schema now.schemas (rows_now now) (rows_now to) t part named moved in
          let both : Some named.schema ≡ Some schema = sym there ∙ is in
          let same : named.schema ≡ schema = cc in
          subst (λ (s : Schema). FitsShape s.shape row) same
          (moved_fit now.schemas (rows_now now) (rows_now to) t part named moved (λ o r was. typed.rows t o named.schema r there was) ordinal row at))
      | inr unnamed ↦
          (let kept = steps.moved.others t (subst (λ (n : ℕ). t < n) (sym typed.types) (slice_get_within now.schemas t schema is)) unnamed in
          typed.rows t ordinal schema row is (sym (get_in (rows_now now) t ordinal) ∙ ap (λ (rows : RowMap). get rows ordinal) (sym kept) ∙ get_in (rows_now to) t ordinal ∙ at))
    ]

pub step_typed : (blob : List ℕ) (now to : Position) → IsTyped now → StepsBy blob now to → IsTyped to
step_typed blob now to typed steps = record {
  names = subst (λ (schemas : List Schema). IsKept schemas DuplicateName) (sym steps.model) typed.names;
  types = rows_count to ∙ steps.types ∙ sym (rows_count now) ∙ typed.types ∙ ap (λ (schemas : List Schema). length schemas) (sym steps.model);
  rows = subst (λ (schemas : List Schema). FitTypes schemas (rows_now to)) (sym steps.model) (steps_fit blob now to typed steps);
}
