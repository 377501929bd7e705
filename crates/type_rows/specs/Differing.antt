-- In what some rows differ from others.
use Rattle.std.specs.Prelude.{ℕ, Option, None, Some}
use Rattle.std.specs.FinMap.{insert, remove}
use Rattle.row_model.specs.declared.row.Row.{Row}
use Rattle.row_model.specs.Table.{RowMap}

-- An ordinal, and the row that is to stand under it, if one is.
abbrev pub Difference : Type 0
Difference = ℕ × Option Row

-- The rows with this difference.
abbrev pub differ_at : RowMap → Difference → RowMap
differ_at rows (ordinal, None) = remove rows ordinal
differ_at rows (ordinal, Some row) = insert rows ordinal row
