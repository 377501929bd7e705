-- A row is restored: it stands in the previous state under an ordinal that was free, in a map whose current state has no rows.
use Rattle.std.specs.Prelude.{ℕ, ◌≡◌, Some, Result, Ok, Err}
use Rattle.std.specs.FinMap.{get, insert}
use Rattle.row_model.specs.declared.row.Row.{Row}
use Rattle.ordinal_map.specs.States.{States}
use Rattle.ordinal_map.specs.declared.fault.RestoreRowFault.{RestoreRowFault}
use Rattle.ordinal_map.specs.declared.fault.RestoreRowFault.TheVariants.{Equal, Memory}

-- no ordinal of the previous state has the row
abbrev pub IsUnknown : States → Row → Type 0
IsUnknown states row = (ordinal : ℕ) → ¬ (get states.previous ordinal ≡ Some row)

-- the row stands in the previous state under that ordinal, and all else stays
abbrev pub Restored : States → ℕ → Row → States → Type 0
Restored old ordinal row new = new ≡ record old { previous = insert old.previous ordinal row }

-- want of memory may come in place of any answer
abbrev pub IsFreeRestore : RestoreRowFault → Type 0
IsFreeRestore (Equal ordinal) = ⊥
IsFreeRestore Memory = Unit {0}

-- What each answer tells: that no ordinal had the row, and that it stands under this one now; or which ordinal has it.
abbrev pub TellsRestore : States → ℕ → Row → States → Result (Unit {0}) RestoreRowFault → Type 0
TellsRestore old ordinal row new (Ok done) = IsUnknown old row × Restored old ordinal row new
TellsRestore old ordinal row new (Err (Equal other)) = (get old.previous other ≡ Some row) × (new ≡ old)
TellsRestore old ordinal row new (Err Memory) = new ≡ old
