-- Rows that are the same in two tables, type by type.
use Rattle.std.specs.Prelude.{◌≡◌, ◌↔◌, ◌<◌, ℕ, List, Some, length, slice_get}
use Rattle.schema_model.specs.declared.schema.Shape.{Shape}
use Rattle.row_model.specs.declared.row.Row.{Row}
use Rattle.row_model.specs.Table.{Table, row_at, IsLive}
use Rattle.object_codec.specs.Stored.{values_of_row}
use Rattle.column_rows.specs.Items.{IsOfPairs}

-- Under each ordinal both tables have a row of the type, or both have none.
abbrev pub HaveSameLive : Table → Table → ℕ → Type 0
HaveSameLive table other type_index = (ordinal : ℕ) → IsLive table type_index ordinal ↔ IsLive other type_index ordinal

-- If both tables have a row of the type under the ordinal, this is so of the two.
abbrev pub IsSoOfBoth : (Row → Row → Type 0) → Table → Table → ℕ → ℕ → Type 0
IsSoOfBoth Is table other type_index ordinal = (row beside : Row) → row_at table type_index ordinal ≡ Some row → row_at other type_index ordinal ≡ Some beside → Is row beside

-- Two records have the same value of a field.
abbrev pub HaveSameValue : ℕ → Row → Row → Type 0
HaveSameValue field row beside = slice_get (values_of_row row) field ≡ slice_get (values_of_row beside) field

-- Two rows are lists of the same elements.
abbrev pub HaveSameElements : Row → Row → Type 0
HaveSameElements row beside = (ordinals : List ℕ) × (row ≡ Row.List ordinals) × (beside ≡ Row.List ordinals)

-- Two rows are sets or maps of the same pairs.
abbrev pub HaveSamePairs : Row → Row → Type 0
HaveSamePairs row beside = (pairs : List (ℕ × ℕ)) × IsOfPairs row pairs × IsOfPairs beside pairs

-- Two rows of a type of this shape have the same values, elements or pairs.
abbrev pub HaveSameParts : Shape → Row → Row → Type 0
HaveSameParts (Shape.Object key fields) row beside = (field : ℕ) → field < length fields → HaveSameValue field row beside
HaveSameParts (Shape.List element) row beside = HaveSameElements row beside
HaveSameParts (Shape.Set element) row beside = HaveSamePairs row beside
HaveSameParts (Shape.Map key value) row beside = HaveSamePairs row beside
