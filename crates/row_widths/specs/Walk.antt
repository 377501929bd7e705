-- A walk over the rows of a type in two states: what it has before it, and what each step takes.
use Rattle.std.specs.Prelude.{◌≡◌, ◌<◌, ◌≤◌, ◌-◌, ◌^◌, ℕ, List, [], ◌∷◌, ◌++◌, if◌then◌else◌, Option, Some, None}
use Rattle.row_model.specs.BothStates.{rows_added, rows_from, rows_in}
use Rattle.row_model.specs.Table.{IsLive, Table, row_at}
use Rattle.row_model.specs.declared.row.Row.{Row}
use Rattle.row_widths.specs.declared.row_walk.RowWalk.{RowWalk}

-- The rows that a walk has before it.
abbrev pub rows_left : Table → Table → ℕ → RowWalk → List Row
rows_left old new type_index walk =
    (if walk.in_new then rows_from walk.ordinal (rows_added old new type_index)
    else rows_from walk.ordinal (rows_in old type_index) ++ rows_from 0 (rows_added old new type_index))

-- A step of a walk takes the first of the rows before it, and none where there is none.
abbrev pub Takes : List Row → Option Row → List Row → Type 0
Takes before None after = before ≡ []
Takes before (Some row) after = before ≡ row ∷ after

-- What each answer of a look-up of the next live ordinal tells: the rows from the first ordinal on are those from the found one on, and it is live.
abbrev pub TellsLive : Table → ℕ → ℕ → Option ℕ → Type 0
TellsLive table type_index from None = (ordinal : ℕ) → from ≤ ordinal → row_at table type_index ordinal ≡ None
TellsLive table type_index from (Some next) =
    IsLive table type_index next × (from ≤ next) × (next < 2 ^ 32 - 1) × ((ordinal : ℕ) → from ≤ ordinal → ordinal < next → row_at table type_index ordinal ≡ None)
