-- Where the rows of a type end, as they are laid out one after another: the end offset of each field of an OBJECT, and the items of the others.
use Rattle.std.specs.Prelude.{◌≡◌, ℕ, ◌+◌, ◌-◌, ◌^◌, ◌<◌, List, Some, length, slice_get, slice_index}
use Rattle.std.specs.FinMap.{get}
use Rattle.std.specs.Option.{option_map_or}
use Rattle.schema_model.specs.declared.schema.Shape.{Shape}
use Rattle.row_model.specs.declared.row.Value.{Value}
use Rattle.row_model.specs.declared.row.Row.{Row}
use Rattle.row_model.specs.Table.{RowMap}
use Rattle.type_rows.specs.Layout.{items_of_row}
use Rattle.type_rows.specs.WordsHeld.{value_bytes, part_bytes}
use Rattle.type_rows.specs.Holds.{FitsRow}

-- The end offset of a field behind a record, by those before it.
abbrev pub end_after : List ℕ → List Value → ℕ → ℕ
end_after ends values f = slice_index ends f + option_map_or value_bytes (slice_get values f) 0

-- The end offset of a field without a record, by that with it.
abbrev pub end_before : List ℕ → List Value → ℕ → ℕ
end_before ends values f = slice_index ends f - option_map_or value_bytes (slice_get values f) 0

-- Each part of a row fits its width, behind rows that end at these offsets and have so many items.
abbrev pub FitsBehind : Shape → List ℕ → List ℕ → ℕ → Row → Type 0
FitsBehind shape widths ends items row =
    FitsRow shape widths (λ f. slice_index ends f + part_bytes f row) (items + items_of_row row) row

-- A row is of the kind of its type: a record has a value for each field, and a set or map has fewer than 2^32 elements.
abbrev pub IsOfKind : Shape → Row → Type 0
IsOfKind (Shape.Object key fields) (Row.Object values) = length values ≡ length fields
IsOfKind (Shape.List element) (Row.List ordinals) = Unit {0}
IsOfKind (Shape.Set element) (Row.Set ordinals) = length ordinals < 2 ^ 32
IsOfKind (Shape.Map key value) (Row.Map pairs) = length pairs < 2 ^ 32
IsOfKind _ _ = ⊥

-- Each row is of the kind of its type.
abbrev pub AreOfKind : Shape → RowMap → Type 0
AreOfKind shape rows = (ordinal : ℕ) (row : Row) → get rows ordinal ≡ Some row → IsOfKind shape row
