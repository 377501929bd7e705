-- The rows of one type: their bound; and a field of all of them, the lists, the sets or maps, where they stand packed.
use Rattle.std.specs.Prelude.{◌≡◌, ◌+◌, ◌<◌, ◌⊎◌, ℕ, IsSome, Some}
use Rattle.std.specs.FinMap.{get}
use Rattle.row_model.specs.declared.row.Row.{Row}
use Rattle.row_model.specs.Table.{RowMap}
use Rattle.object_codec.specs.Stored.{values_of_row}
use Rattle.object_codec.specs.declared.column.Column.{Column}
use Rattle.column_rows.specs.declared.items.PackedItems.{PackedItems}
use Rattle.column_rows.specs.Columns.{HasValueOf}
use Rattle.column_rows.specs.Items.{IsListThere, IsRunThere}

-- one past the greatest live ordinal of some rows, 0 for none
pub record IsRowsBound (rows : RowMap) (bound : ℕ) : Type 0 where
  pub above : (ordinal : ℕ) → IsSome (get rows ordinal) → ordinal < bound
  pub least : (bound ≡ 0) ⊎ ((ordinal : ℕ) × (bound ≡ ordinal + 1) × IsSome (get rows ordinal))

-- The column is that of a field: each row's value of the field stands under its ordinal.
abbrev pub IsColumnIn : RowMap → ℕ → Column → Type 0
IsColumnIn rows field column = (ordinal : ℕ) (row : Row) → get rows ordinal ≡ Some row → HasValueOf column ordinal (values_of_row row) field

-- Each row is a list that stands under its ordinal.
abbrev pub AreListsIn : RowMap → PackedItems → Type 0
AreListsIn rows items = (ordinal : ℕ) (row : Row) → get rows ordinal ≡ Some row → IsListThere items ordinal row

-- Each row is a set or map that stands under its ordinal.
abbrev pub AreRunsIn : RowMap → PackedItems → Type 0
AreRunsIn rows items = (ordinal : ℕ) (row : Row) → get rows ordinal ≡ Some row → IsRunThere items ordinal row
