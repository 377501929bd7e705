-- A table whose rows a blob can hold.
use Rattle.std.specs.Prelude.{ℕ, ◌≡◌, Some}
use Rattle.row_model.specs.declared.row.Row.{Row}
use Rattle.row_model.specs.Table.{Table, row_at}
use Rattle.row_packing.specs.Written.{IsStored}

-- No row of the table has a least INT or a least LONG.
abbrev pub AreStored : Table → Type 0
AreStored table = (t ordinal : ℕ) (row : Row) → row_at table t ordinal ≡ Some row → IsStored row
