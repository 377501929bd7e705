-- The rows that a delta of bytes leads to.
use Rattle.std.proofs.Common.{◌≡◌, ◌<◌, ◌⊎◌, ◌∙◌, ◌+◌, ℕ, ℤ, List, [], ◌∷◌, length, sum, Option, None, Some, IfSome, inl, inr, refl, sym, ap, subst}
use Rattle.std.specs.Prelude.{All, is_some, option_and_then, slice_get}
use Rattle.std.specs.FinMap.{get}
use Rattle.std.specs.List.{AllZip}
use Rattle.std.proofs.lemmas.Bool.{cases_eq}
use Rattle.std.proofs.lemmas.List.Elements.{All-cons, All-filter, All-head, All-nil, All-tail}
use Rattle.std.proofs.lemmas.Option.{slice_get_within}
use Rattle.blob_grammar.specs.Decided.{AreBytes}
use Rattle.blob_grammar.specs.Form.{◌>>=◌, at_most, nothing}
use Rattle.blob_frame.specs.Item.{counted_run, vint}
use Rattle.schema_model.specs.declared.schema.Field.{Field}
use Rattle.schema_model.specs.declared.schema.FieldKind.{FieldKind}
use Rattle.schema_model.specs.declared.schema.Schema.{Schema}
use Rattle.schema_model.specs.declared.schema.Shape.{Shape}
use Rattle.schema_model.specs.Parts.{index_of_type, shape_fields}
use Rattle.row_model.specs.declared.row.Row.{Row}
use Rattle.row_model.specs.declared.row.Value.{Value}
use Rattle.row_model.specs.BothStates.{rows_in}
use Rattle.row_model.specs.Table.{RowMap, Table, row_at}
use Rattle.row_model.proofs.RowsFrom.{get_in}
use Rattle.object_codec.specs.ObjectPlace.{parts_from, parts_of}
use Rattle.object_codec.specs.Part.{FieldPart}
use Rattle.type_rows.specs.declared.patch.PatchSection.{PatchSection}
use Rattle.type_rows.specs.declared.section.Section.{Section}
use Rattle.type_rows.specs.Patches.{places_in}
use Rattle.type_rows.proofs.MovedRows.{moved_from}
use Rattle.seen_patches.specs.ByName.{field_in, item_named}
use Rattle.seen_patches.specs.Spelling.{SpellsColumn, SpellsSeen}
use Rattle.seen_patches.proofs.PutColumns.{named_all}
use Rattle.delta_blob.specs.declared.part.DeltaPart.{DeltaPart}
use Rattle.delta_blob.specs.Added.{added_records, added_rows, added_runs}
use Rattle.delta_blob.specs.Moved.{EachNamed, IsUnnamed, Moved, MovesType}
use Rattle.delta_blob.specs.Parts.{body, patch_part, patch_section}
use Rattle.delta_blob.specs.Patch.{DeltaIs, PartIs, TypePatch, parts_for}
use Rattle.delta_blob.proofs.WholeDeltas.{begins}
use Rattle.byte_laws.specs.Bytes.{IsByteRow, IsByteTable, IsByteValue}
use Rattle.byte_laws.proofs.LoadedRows.{Gives, HasAreas, area_gives, counted_gives, repeated_gives, value_spelled}

-- ---- the areas of a delta

-- The areas of a type's part are bytes.
abbrev HasByteAreas : DeltaPart → Type 0
HasByteAreas part = All AreBytes part.section.areas

module _ (blob : List ℕ) (are : AreBytes blob) where
  records_give : (shape : Shape) (max : Option ℕ) (places : ℕ) → Gives blob are (added_records shape max places) (HasAreas blob are)
  unfolding added_records ◌>>=◌ nothing
  records_give shape max places at value next (widths, a, wide, (records, b, words, (areas, c, runs, is))) =
      subst (HasAreas blob are) (sym is.0) (repeated_gives blob are (length (shape_fields shape)) counted_run AreBytes (area_gives blob are) b areas c runs)

  runs_give : (shape : Shape) (places : ℕ) → Gives blob are (added_runs shape places) (HasAreas blob are)
  unfolding added_runs ◌>>=◌ nothing
  runs_give shape places at value next (widths, a, wide, (total, b, number, (pointers, c, words, (items, d, more, is)))) = subst (HasAreas blob are) (sym is.0) (All-nil AreBytes)

  rows_give : (shape : Shape) (max : Option ℕ) (places : ℕ) → Gives blob are (added_rows shape max places) (HasAreas blob are)
  unfolding added_rows
  rows_give (Shape.Object key fields) max places = records_give (Shape.Object key fields) max places
  rows_give (Shape.List element) max places = runs_give (Shape.List element) places
  rows_give (Shape.Set element) max places = runs_give (Shape.Set element) places
  rows_give (Shape.Map key value) max places = runs_give (Shape.Map key value) places

  section_gives : (shape : Shape) → Gives blob are (patch_section shape) (λ section. All AreBytes section.areas)
  unfolding patch_section ◌>>=◌ nothing
  section_gives shape at value next (max, a, greatest, (removed, b, gone, (added, c, came, (rows, d, packed, is)))) =
      subst (λ (section : PatchSection). All AreBytes section.areas) (sym is.0) (rows_give shape max (length added) c rows d packed)

  part_gives : Gives blob are patch_part HasByteAreas
  unfolding patch_part ◌>>=◌ nothing
  part_gives at value next (head, a, heads, (section, b, rows, is)) = subst HasByteAreas (sym is.0) (section_gives head.schema.shape a section b rows)

  body_gives : Gives blob are body (All HasByteAreas)
  unfolding body ◌>>=◌ nothing
  body_gives at value next (parts, a, listed, (done, b, ended, is)) =
      subst (All HasByteAreas) (sym is.0) (counted_gives blob are (at_most vint 512) patch_part HasByteAreas part_gives at parts a listed)

-- ---- the rows of a section, as they are seen

-- The area of a part is bytes.
abbrev HasByteArea : FieldPart → Type 0
HasByteArea part = AreBytes part.area

parts_bytes : (first : List ℕ) (size place before : ℕ) (widths : List ℕ) (areas : List (List ℕ)) → All AreBytes areas → All HasByteArea (parts_from first size place before widths areas)
parts_bytes first size place before [] areas all = All-nil HasByteArea
parts_bytes first size place before (width ∷ widths) [] all = All-nil HasByteArea
parts_bytes first size place before (width ∷ widths) (area ∷ areas) all =
    All-cons HasByteArea _ (parts_from first size place (before + width) widths areas) (All-head AreBytes area areas all) (parts_bytes first size place (before + width) widths areas (All-tail AreBytes area areas all))

column_bytes : (kind : FieldKind) (part : Option FieldPart) (value : Value) → IfSome part HasByteArea → SpellsColumn kind part value → IsByteValue value
column_bytes kind None value are spells = subst IsByteValue (sym spells) tt
column_bytes kind (Some part) value are spells = value_spelled kind part value are spells

columns_bytes : (theirs : List Field) (parts : List FieldPart) → All HasByteArea parts → (mine : List Field) (values : List Value)
    → AllZip (λ field value. SpellsColumn field.kind (item_named theirs parts field.name) value) mine values → All IsByteValue values
columns_bytes theirs parts are [] [] spells = All-nil IsByteValue
columns_bytes theirs parts are [] (value ∷ values) spells = absurd spells
columns_bytes theirs parts are (field ∷ mine) [] spells = absurd spells
columns_bytes theirs parts are (field ∷ mine) (value ∷ values) spells =
    All-cons IsByteValue value values (column_bytes field.kind (item_named theirs parts field.name) value (named_all HasByteArea parts (field_in theirs field.name) are) spells.0)
    (columns_bytes theirs parts are mine values spells.1)

seen_bytes : (mine theirs : Shape) (section : Section) (place : ℕ) (row : Row) → All AreBytes section.areas → SpellsSeen mine theirs section place row → IsByteRow row
seen_bytes mine theirs section place (Row.List ordinals) all spells = tt
seen_bytes mine theirs section place (Row.Set ordinals) all spells = tt
seen_bytes mine theirs section place (Row.Map pairs) all spells = tt
seen_bytes (Shape.Object key mine) theirs section place (Row.Object values) all spells =
    columns_bytes (shape_fields theirs) (parts_of section.widths section.first section.areas place) (parts_bytes section.first (sum section.widths) place 0 section.widths section.areas all) mine values spells
seen_bytes (Shape.List element) theirs section place (Row.Object values) all spells = absurd spells
seen_bytes (Shape.Set element) theirs section place (Row.Object values) all spells = absurd spells.1
seen_bytes (Shape.Map key value) theirs section place (Row.Object values) all spells = absurd spells.1

-- ---- the rows of a patch

-- Each row of the type that a patch adds has bytes.
abbrev AddsBytes : TypePatch → Type 0
AddsBytes named = (place : ℕ) (row : Row) → slice_get named.rows place ≡ Some row → IsByteRow row

module _ (schemas : List Schema) where
  adds_bytes : (parts : List DeltaPart) (patch : List TypePatch) → All HasByteAreas parts → AllZip (PartIs schemas) parts patch → All AddsBytes patch
  adds_bytes [] [] are sees = All-nil AddsBytes
  adds_bytes [] (named ∷ patch) are sees = absurd sees
  adds_bytes (part ∷ parts) [] are sees = absurd sees
  adds_bytes (part ∷ parts) (named ∷ patch) are sees =
      All-cons AddsBytes named patch
      (λ place row at. seen_bytes named.schema.shape part.schema.shape (places_in part.section) place row (All-head HasByteAreas part parts are) (sees.0.spelled.spelled place row at))
      (adds_bytes parts patch (All-tail HasByteAreas part parts are) sees.1)

-- ---- where a patch leads

module _ (old new : Table) (bytes : IsByteTable old) where
  -- the type is one that the patch moves, by rows that have bytes, or it is none
  named_or_not : (t : ℕ) (patch : List TypePatch) → All AddsBytes patch → EachNamed patch (MovesType old new) → ((named : TypePatch) × AddsBytes named × MovesType old new t named) ⊎ IsUnnamed patch t
  named_or_not t [] adds each = inr (All-nil (λ named. named.type_index ≡ t → ⊥))
  named_or_not t (named ∷ patch) adds each =
      elim (cases_eq named.type_index t) [
        | inl here ↦ inl (named, All-head AddsBytes named patch adds, subst (λ (k : ℕ). MovesType old new k named) here (All-head (λ n. MovesType old new n.type_index n) named patch each))
        | inr apart ↦
            elim (named_or_not t patch (All-tail AddsBytes named patch adds) (All-tail (λ n. MovesType old new n.type_index n) named patch each)) [
              | inl found ↦ inl found
              | inr none ↦ inr (All-cons (λ n. n.type_index ≡ t → ⊥) named patch apart none)
            ]
      ]

  old_bytes : (t ordinal : ℕ) (row : Row) → get (rows_in old t) ordinal ≡ Some row → IsByteRow row
  old_bytes t ordinal row at = bytes t ordinal row (sym (get_in old t ordinal) ∙ at)

  there : (table : Table) (t ordinal : ℕ) (row : Row) → row_at table t ordinal ≡ Some row → t < length table
  there table t ordinal row at = in_list (slice_get table t) refl at
    where
      in_list : (found : Option RowMap) → slice_get table t ≡ found → option_and_then (λ rows. get rows ordinal) found ≡ Some row → t < length table
      in_list None is none = absurd cc
      in_list (Some rows) is some = slice_get_within table t rows is

  moved_rows : (t : ℕ) (named : TypePatch) → AddsBytes named → MovesType old new t named → (ordinal : ℕ) (row : Row) → get (rows_in new t) ordinal ≡ Some row → IsByteRow row
  moved_rows t named adds moves ordinal row at =
      elim (moved_from (rows_in old t) (rows_in new t) named.removed named.added named.rows ordinal row moves at) [
        | inl was ↦ old_bytes t ordinal row was
        | inr came ↦ adds came.0 row came.1
      ]

  patched : (patch : List TypePatch) → All AddsBytes patch → Moved patch old new → IsByteTable new
  patched patch adds moved t ordinal row at =
      elim (named_or_not t patch adds moved.named) [
        | inl (named, added, moves) ↦ moved_rows t named added moves ordinal row (get_in new t ordinal ∙ at)
        | inr unnamed ↦
            (let same = moved.others t (subst (λ (n : ℕ). t < n) moved.types (there new t ordinal row at)) unnamed in
            old_bytes t ordinal row (ap (λ (rows : RowMap). get rows ordinal) (sym same) ∙ get_in new t ordinal ∙ at))
      ]

-- The rows that a delta of bytes leads to have bytes, where those from before have.
pub patched_bytes : (schemas : List Schema) (blob : List ℕ) (origin destination : ℤ) (patch : List TypePatch) (old new : Table) → AreBytes blob → DeltaIs schemas blob origin destination patch → Moved patch old new
    → IsByteTable old → IsByteTable new
patched_bytes schemas blob origin destination patch old new are is moved bytes =
    let (at, head, stands) = begins schemas blob origin destination patch is in
    let areas = body_gives blob are at is.parts (length blob) stands in
    patched old new bytes patch
    (adds_bytes schemas (parts_for schemas is.parts) patch (All-filter (λ part. is_some (index_of_type schemas part.schema.name)) HasByteAreas is.parts areas) is.sees) moved
