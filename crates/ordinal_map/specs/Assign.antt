-- Which ordinal a row gets: the one under which the previous or the current state has it, else the least number that is in neither.
use Rattle.std.specs.Prelude.{ℕ, ◌≡◌, ◌+◌, ◌<◌, ◌^◌, ◌⊎◌, Some, None, IsSome, Result, Ok, Err}
use Rattle.std.specs.FinMap.{get, insert}
use Rattle.row_model.specs.declared.row.Row.{Row}
use Rattle.row_model.specs.Table.{RowMap}
use Rattle.ordinal_map.specs.States.{States}
use Rattle.ordinal_map.specs.declared.fault.PutRowFault.{PutRowFault}
use Rattle.ordinal_map.specs.declared.fault.PutRowFault.TheVariants.{TooMany, Memory}

-- one of the two states has the row under the ordinal
abbrev pub Holds : RowMap → RowMap → Row → ℕ → Type 0
Holds previous current row ordinal = (get previous ordinal ≡ Some row) ⊎ (get current ordinal ≡ Some row)

-- one of the two states has a row under the ordinal
abbrev pub IsTaken : RowMap → RowMap → ℕ → Type 0
IsTaken previous current ordinal = IsSome (get previous ordinal) ⊎ IsSome (get current ordinal)

-- neither state has a row under the number, and each number below it is taken
pub record IsLeast (previous current : RowMap) (ordinal : ℕ) : Type 0 where
  pub free : get previous ordinal ≡ None
  pub free_now : get current ordinal ≡ None
  pub below : (number : ℕ) → number < ordinal → IsTaken previous current number

-- neither state has the row, and the number is the least free one
pub record IsNew (previous current : RowMap) (row : Row) (ordinal : ℕ) : Type 0 where
  pub absent : (number : ℕ) → ¬ Holds previous current row number
  pub least : IsLeast previous current ordinal

-- the ordinal that the row gets
abbrev pub IsPut : RowMap → RowMap → Row → ℕ → Type 0
IsPut previous current row ordinal = Holds previous current row ordinal ⊎ IsNew previous current row ordinal

-- No row is under two ordinals and no ordinal has two rows, also where one of the two is in the previous state and the other in the current one.
-- Each ordinal is below 2^22.
pub record Agree (previous current : RowMap) : Type 0 where
  pub one_ordinal : (row : Row) (first second : ℕ) → Holds previous current row first → Holds previous current row second → first ≡ second
  pub one_row : (ordinal : ℕ) (first second : Row) → Holds previous current first ordinal → Holds previous current second ordinal → first ≡ second
  pub low : (ordinal : ℕ) → IsTaken previous current ordinal → ordinal < 2 ^ 22

-- one past the greatest ordinal, 0 for none
pub record IsPast (rows : RowMap) (bound : ℕ) : Type 0 where
  pub above : (ordinal : ℕ) → IsSome (get rows ordinal) → ordinal < bound
  pub least : (bound ≡ 0) ⊎ ((ordinal : ℕ) × (bound ≡ ordinal + 1) × IsSome (get rows ordinal))

-- want of memory may come in place of any answer
abbrev pub IsFreePut : PutRowFault → Type 0
IsFreePut TooMany = ⊥
IsFreePut Memory = Unit {0}

-- the row stands in the current state under that ordinal, and all else stays
abbrev pub WithRow : States → ℕ → Row → States → Type 0
WithRow old ordinal row new = new ≡ record old { current = insert old.current ordinal row }

-- What each answer of a put tells: the ordinal that the row gets, below 2^22, and that it stands there now; or that its ordinal would be 2^22.
abbrev pub TellsPut : States → Row → States → Result ℕ PutRowFault → Type 0
TellsPut old row new (Ok ordinal) = IsPut old.previous old.current row ordinal × (ordinal < 2 ^ 22) × WithRow old ordinal row new
TellsPut old row new (Err TooMany) = IsPut old.previous old.current row (2 ^ 22) × (new ≡ old)
TellsPut old row new (Err Memory) = new ≡ old
