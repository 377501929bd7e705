-- What the previous state and the rows of a cycle so far have to do with one another.
use Rattle.std.specs.Prelude.{ℕ, ◌≡◌, ◌<◌, ◌^◌, Some, IsSome}
use Rattle.std.specs.FinMap.{get}
use Rattle.row_model.specs.declared.row.Row.{Row}
use Rattle.row_model.specs.Table.{Table}
use Rattle.ordinal_map.specs.Assign.{Agree}
use Rattle.write_engine.specs.Cycle.{rows_in}

-- In no type a row stands under two ordinals or an ordinal has two rows, whichever of the two tables they are in; each ordinal is below 2^22.
abbrev pub TablesAgree : Table → Table → Type 0
TablesAgree previous current = (t : ℕ) → Agree (rows_in previous t) (rows_in current t)

-- a table holds no row twice in one type, and its ordinals are below 2^22
pub record HoldsOnce (table : Table) : Type 0 where
  pub once : (type_index first second : ℕ) (row : Row) → get (rows_in table type_index) first ≡ Some row → get (rows_in table type_index) second ≡ Some row → first ≡ second
  pub low : (type_index ordinal : ℕ) → IsSome (get (rows_in table type_index) ordinal) → ordinal < 2 ^ 22
