-- Where a blob that is loaded leads, and one that is stepped along from a position, is a position.
use Rattle.std.proofs.Common.{◌≡◌, ◌<◌, ◌≤◌, ◌⊎◌, ℕ, zero, suc, List, [], ◌∷◌, length, Some, inl, inr, sym, ap, subst, ◌∙◌, arith, lit≤}
use Rattle.std.specs.Prelude.{All, slice_get}
use Rattle.std.specs.FinMap.{get}
use Rattle.std.specs.List.{AllZip}
use Rattle.std.proofs.lemmas.Bool.{cases_eq}
use Rattle.std.proofs.lemmas.List.{length-map}
use Rattle.std.proofs.lemmas.Option.{slice_get_within}
use Rattle.std.proofs.lemmas.List.Elements.{All-cons, All-head, All-nil, All-tail}
use Rattle.schema_model.specs.declared.schema.Schema.{Schema}
use Rattle.schema_model.specs.declared.schema.Shape.{Shape}
use Rattle.schema_model.specs.Limit.{number_of_limit}
use Rattle.schema_model.specs.declared.limit.Limit.TheVariants.{Indexes, Walks}
use Rattle.schema_model.specs.declared.model.walk_path.WalkPath.{WalkPath}
use Rattle.schema_model.specs.Model.{IsModel}
use Rattle.row_model.specs.declared.row.Row.{Row}
use Rattle.row_model.specs.Row.{FitsShape, IsRowInRange}
use Rattle.row_model.specs.Table.{EachRow, IsClosed, IsTableOf, RowMap, Table, row_at}
use Rattle.row_model.specs.BothStates.{rows_in}
use Rattle.row_model.proofs.RowsFrom.{get_in}
use Rattle.type_rows.specs.declared.patch.PatchSection.{PatchSection}
use Rattle.type_rows.specs.Loads.{Spells}
use Rattle.type_rows.specs.Patches.{AddsRows, MovesRows, places_in}
use Rattle.type_rows.proofs.MovedRows.{moved_all}
use Rattle.type_rows.proofs.SectionRows.{row_fits, rows_fit}
use Rattle.seen_patches.proofs.Patched.{ordinals_kept, rows_seen}
use Rattle.seen_patches.proofs.SomeSeen.{each_seen}
use Rattle.type_state.specs.State.{Half}
use Rattle.type_state.specs.Views.{table_of}
use Rattle.blob_faults.proofs.SettledRows.{HasFields}
use Rattle.snapshot_blob.specs.declared.part.TypePart.{TypePart}
use Rattle.snapshot_blob.specs.Stated.{TypeIs, schemas_of}
use Rattle.snapshot_blob.proofs.PartValues as snapshot_values
use Rattle.delta_blob.specs.declared.part.DeltaPart.{DeltaPart}
use Rattle.delta_blob.specs.Moved.{EachNamed, IsUnnamed, MovesType}
use Rattle.delta_blob.specs.Patch.{PartIs, TypePatch, parts_for}
use Rattle.delta_blob.proofs.OnePatch.{delta_given}
use Rattle.delta_blob.proofs.SeenParts.{IsPlainPart, there_plain}
use Rattle.read_engine.specs.Position.{Index, IsIndexOf, IsPosition, IsWalkOf, Position, rows_now}
use Rattle.read_engine.specs.Taking.{LoadsFrom, StepsBy}
use Rattle.read_engine.specs.Walks.{HasFewEntries}
use Rattle.read_engine.proofs.Those.{those_all, those_few}
use Rattle.step_laws.specs.Typed.{HasTypes}
use Rattle.step_laws.proofs.MovedOnce.{moved_once}
use Rattle.step_laws.proofs.RowRanges.{row_ranges, rows_range}
use Rattle.step_laws.proofs.SeenFields.{seen_fields}
use Rattle.step_laws.proofs.Typing.{load_typed, position_typed, step_typed}

-- a position has as many types as its model
types_now : (position : Position) → HasTypes position → length (rows_now position) ≡ length position.schemas
types_now position typed = length-map position.halves (λ (half : Half). half.rows) ∙ typed.types

-- ---- loads

-- what holds of each row of each part holds of the rows of the halves
loaded_each : (P : Schema → Row → Type 0) → ((part : TypePart) (half : Half) (ordinal : ℕ) (row : Row) → snapshot_values.IsPart part → TypeIs part half → get half.rows ordinal ≡ Some row → P part.schema row)
    → (parts : List TypePart) (halves : List Half) → All snapshot_values.IsPart parts → AllZip TypeIs parts halves → EachRow (schemas_of parts) (table_of halves) P
loaded_each P each [] halves given are type_index ordinal schema row is at = absurd cc
loaded_each P each (part ∷ parts) [] given are type_index ordinal schema row is at = absurd are
loaded_each P each (part ∷ parts) (half ∷ halves) given are zero ordinal schema row is at =
    let of : part.schema ≡ schema = cc in
    subst (λ (s : Schema). P s row) of (each part half ordinal row (All-head snapshot_values.IsPart part parts given) are.0 at)
loaded_each P each (part ∷ parts) (half ∷ halves) given are (suc type_index) ordinal schema row is at =
    loaded_each P each parts halves (All-tail snapshot_values.IsPart part parts given) are.1 type_index ordinal schema row is at

loaded_table : (blob : List ℕ) (position : Position) → LoadsFrom blob position → IsTableOf position.schemas (rows_now position)
loaded_table blob position (head, (parts, is, kept), tag, before, bare, unwalked) =
    let given = (snapshot_values.snapshot_given blob 0 (head, parts) (length blob) is.items).1.1 in
    record {
      types = types_now position (load_typed blob position (head, (parts, is, kept), tag, before, bare, unwalked));
      rows = subst (λ (schemas : List Schema). EachRow schemas (rows_now position) (λ schema row. FitsShape schema.shape row)) is.state.named
          (loaded_each (λ schema row. FitsShape schema.shape row) (λ part half ordinal row has type_is at. rows_fit part.schema.shape part.section half.rows ordinal row type_is.rows at) parts position.halves given is.state.types);
      ranges = subst (λ (schemas : List Schema). EachRow schemas (rows_now position) (λ schema row. IsRowInRange row)) is.state.named
          (loaded_each (λ schema row. IsRowInRange row) (λ part half ordinal row has type_is at. rows_range part.schema.shape part.section half.rows ordinal row has.fields type_is.rows at) parts position.halves given is.state.types);
    }

pub load_position : (blob : List ℕ) (position : Position) → LoadsFrom blob position → IsPosition position
load_position blob position loads =
    let table = loaded_table blob position loads in
    let state = loads.1.1.state in
    record {
      model = state.model;
      rows = table;
      closed = state.closed;
      rows_before = subst (IsTableOf position.schemas) (sym loads.3) table;
      closed_before = subst (IsClosed position.schemas) (sym loads.3) state.closed;
      indexes = subst (All (IsIndexOf position.schemas)) (sym loads.4) (All-nil (IsIndexOf position.schemas));
      few = subst (λ (indexes : List Index). length indexes ≤ number_of_limit Indexes) (sym loads.4) (lit≤ tt);
      walks = subst (All (IsWalkOf position.schemas)) (sym loads.5) (All-nil (IsWalkOf position.schemas));
      few_walks = subst (λ (walks : List WalkPath). length walks ≤ number_of_limit Walks) (sym loads.5) (lit≤ tt);
    }

-- ---- steps

module _ (schemas : List Schema) (old new : Table) (t : ℕ) where
  -- the part of a delta that moves the type
  record IsMovedBy (part : DeltaPart) (named : TypePatch) : Type 0 where
    plain : IsPlainPart part
    is : PartIs schemas part named
    at : named.type_index ≡ t
    moves : MovesType old new t named

  moved_or_unnamed : (parts : List DeltaPart) (patch : List TypePatch) → All IsPlainPart parts → AllZip (PartIs schemas) parts patch → EachNamed patch (MovesType old new)
      → ((part : DeltaPart) × (named : TypePatch) × IsMovedBy part named) ⊎ IsUnnamed patch t
  moved_or_unnamed parts [] plain are each = inr (All-nil (λ named. named.type_index ≡ t → ⊥))
  moved_or_unnamed [] (named ∷ patch) plain are each = absurd are
  moved_or_unnamed (part ∷ parts) (named ∷ patch) plain are each =
      elim (cases_eq named.type_index t) [
        | inl here ↦
            inl (
              part,
              named,
              record {
                plain = All-head IsPlainPart part parts plain;
                is = are.0;
                at = here;
                moves = subst (λ (k : ℕ). MovesType old new k named) here (All-head (λ n. MovesType old new n.type_index n) named patch each);
              },
            )
        | inr apart ↦
            elim (moved_or_unnamed parts patch (All-tail IsPlainPart part parts plain) are.1 (All-tail (λ n. MovesType old new n.type_index n) named patch each)) [
              | inl found ↦ inl found
              | inr none ↦ inr (All-cons (λ n. n.type_index ≡ t → ⊥) named patch apart none)
            ]
      ]

  -- the schema of its patch is that of the type
  its_schema : (part : DeltaPart) (named : TypePatch) → IsMovedBy part named → slice_get schemas t ≡ Some named.schema
  its_schema part named moved = subst (λ (k : ℕ). slice_get schemas k ≡ Some named.schema) moved.at moved.is.means.stands

  -- what holds of the old rows of the type, and of those that a section spells as it is seen, holds of the new ones
  moved_each : (P : Shape → Row → Type 0) → ((shape : Shape) (seen : PatchSection) → HasFields shape (places_in seen) → (place : ℕ) (row : Row) → Spells shape (places_in seen) place row → P shape row)
      → (part : DeltaPart) (named : TypePatch) → IsMovedBy part named → ((ordinal : ℕ) (row : Row) → row_at old t ordinal ≡ Some row → P named.schema.shape row) → (ordinal : ℕ) (row : Row) → row_at new t ordinal ≡ Some row
      → P named.schema.shape row
  moved_each P each part named moved before ordinal row at =
      let shape = named.schema.shape in
      let theirs = part.schema.shape in
      let agree = moved.is.means.agree in
      let (seen, is) = each_seen shape theirs part.section agree in
      let ordinals = ordinals_kept shape theirs part.section seen is in
      let adds : AddsRows shape seen named.rows = (rows_seen shape theirs part.section seen named.rows agree moved.plain.apart moved.plain.given.columns is).1 moved.is.spelled in
      let moves : MovesRows (rows_in old t) (rows_in new t) seen.removed seen.added named.rows =
      subst (λ (xs : List ℕ). MovesRows (rows_in old t) (rows_in new t) xs seen.added named.rows) (moved.is.removed ∙ sym ordinals.removed)
      (subst (λ (xs : List ℕ). MovesRows (rows_in old t) (rows_in new t) named.removed xs named.rows) (moved.is.added ∙ sym ordinals.added) moved.moves) in
      let has = seen_fields named.schema part seen moved.plain agree is in
      moved_all (P shape) shape seen (rows_in old t) (rows_in new t) named.rows adds moves (λ o r is. before o r (sym (get_in old t o) ∙ is)) (λ place r inside spelled. each shape seen has place r spelled) ordinal row
      (get_in new t ordinal ∙ at)

module _ (blob : List ℕ) (from to : Position) (position : IsPosition from) (steps : StepsBy blob from to) where
  -- the parts of the types that the model has
  abbrev known : List DeltaPart
  known = parts_for from.schemas steps.is.parts

  plain : All IsPlainPart known
  plain = there_plain from.schemas steps.is.parts steps.is.items.once (delta_given blob from.schemas from.tag to.tag steps.patch steps.is)

  -- what holds of the rows before holds of those behind
  stepped_each : (P : Shape → Row → Type 0) → ((shape : Shape) (seen : PatchSection) → HasFields shape (places_in seen) → (place : ℕ) (row : Row) → Spells shape (places_in seen) place row → P shape row)
      → EachRow from.schemas (rows_now from) (λ schema row. P schema.shape row) → EachRow from.schemas (rows_now to) (λ schema row. P schema.shape row)
  stepped_each P each before t ordinal schema row is at =
      elim (moved_or_unnamed from.schemas (rows_now from) (rows_now to) t known steps.patch plain steps.is.sees steps.moved.named) [
        | inl (part, named, moved) ↦
            (let there = its_schema from.schemas (rows_now from) (rows_now to) t part named moved in
            let both : Some named.schema ≡ Some schema = sym there ∙ is in
            let same : named.schema ≡ schema = cc in
            subst (λ (s : Schema). P s.shape row) same
            (moved_each from.schemas (rows_now from) (rows_now to) t P each part named moved (λ o r was. before t o named.schema r there was) ordinal row at))
        | inr unnamed ↦
            (let kept = steps.moved.others t (subst (λ (n : ℕ). t < n) (sym position.rows.types) (slice_get_within from.schemas t schema is)) unnamed in
            before t ordinal schema row is (sym (get_in (rows_now from) t ordinal) ∙ ap (λ (rows : RowMap). get rows ordinal) (sym kept) ∙ get_in (rows_now to) t ordinal ∙ at))
      ]

  stepped_table : IsTableOf from.schemas (rows_now to)
  stepped_table = record {
    types = types_now to (step_typed blob from to (position_typed from position) steps) ∙ ap (λ (schemas : List Schema). length schemas) steps.model;
    rows = stepped_each (λ shape row. FitsShape shape row) (λ shape seen has place row spelled. row_fits shape (places_in seen) place row spelled) position.rows.rows;
    ranges = stepped_each (λ shape row. IsRowInRange row) (λ shape seen has place row spelled. row_ranges shape (places_in seen) place row has spelled) position.rows.ranges;
  }

  -- there is one table that the patch moves to, which is closed
  stepped_closed : IsClosed from.schemas (rows_now to)
  stepped_closed = subst (IsClosed from.schemas) (moved_once steps.patch (rows_now from) steps.fits.moved (rows_now to) steps.fits.moves steps.moved) steps.fits.closed

  pub step_position : IsPosition to
  step_position = record {
    model = subst IsModel (sym steps.model) position.model;
    rows = subst (λ (schemas : List Schema). IsTableOf schemas (rows_now to)) (sym steps.model) stepped_table;
    closed = subst (λ (schemas : List Schema). IsClosed schemas (rows_now to)) (sym steps.model) stepped_closed;
    rows_before = subst (λ (schemas : List Schema). IsTableOf schemas to.before) (sym steps.model) (subst (IsTableOf from.schemas) (sym steps.before) position.rows);
    closed_before = subst (λ (schemas : List Schema). IsClosed schemas to.before) (sym steps.model) (subst (IsClosed from.schemas) (sym steps.before) position.closed);
    indexes = subst (λ (schemas : List Schema). All (IsIndexOf schemas) to.indexes) (sym steps.model) (subst (All (IsIndexOf from.schemas)) (sym steps.indexes) position.indexes);
    few = subst (λ (indexes : List Index). length indexes ≤ number_of_limit Indexes) (sym steps.indexes) position.few;
    walks = subst (λ (schemas : List Schema). All (IsWalkOf schemas) to.walks) (sym steps.model)
        (those_all (HasFewEntries from.schemas (rows_now to)) (IsWalkOf from.schemas) from.walks to.walks steps.walks position.walks);
    few_walks = (let fewer = those_few (HasFewEntries from.schemas (rows_now to)) from.walks to.walks steps.walks in let few = position.few_walks in omega (arith, few, fewer));
  }
