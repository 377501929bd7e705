-- How far the rows of a state have been restored: the rows of a type below an ordinal, and the types below one.
use Rattle.std.specs.Prelude.{List, ℕ, ◌≡◌, ◌<◌, ◌≤◌, ◌+◌, None, Result, Ok, Err, take}
use Rattle.std.specs.FinMap.{get, empty}
use Rattle.row_model.specs.Table.{Table, row_at}
use Rattle.ordinal_map.specs.States.{States}
use Rattle.write_engine.specs.Cycle.{no_rows, rows_in}
use Rattle.write_engine.specs.Production.{current_of, previous_of}
use Rattle.write_engine.specs.Restoring.{AreEqualRows, HasDistinctRows, IsFirstDuplicate, IsFirstOfType}
use Rattle.write_engine.specs.declared.restoring.RestoreFault.{RestoreFault}
use Rattle.write_engine.specs.declared.restoring.RestoreFault.TheVariants.{Duplicate, Memory}

-- The previous state has the rows of the type below this ordinal, no two of them equal, and the current one has none.
pub record HasRowsBelow (table : Table) (type_index ordinal : ℕ) (states : States) : Type 0 where
  pub below : (other : ℕ) → other < ordinal → get states.previous other ≡ row_at table type_index other
  pub above : (other : ℕ) → ordinal ≤ other → get states.previous other ≡ None
  pub current : states.current ≡ empty
  pub distinct : (first second : ℕ) → second < ordinal → ¬ AreEqualRows table type_index first second

-- What each answer to the restoring of a row tells, by the states that it leaves.
abbrev pub TellsRow : Table → ℕ → ℕ → States → Result (Unit {0}) RestoreFault → Type 0
TellsRow table type_index ordinal states (Ok done) = HasRowsBelow table type_index (ordinal + 1) states
TellsRow table type_index ordinal states (Err (Duplicate found first second)) = (found ≡ type_index) × IsFirstOfType table type_index first second
TellsRow table type_index ordinal states (Err Memory) = Unit {0}

-- The previous state has the rows of the type, no two of them equal, and the current one has none.
pub record HasRowsOf (table : Table) (type_index : ℕ) (states : States) : Type 0 where
  pub previous : states.previous ≡ rows_in table type_index
  pub current : states.current ≡ empty
  pub distinct : HasDistinctRows table type_index

-- What each answer to the restoring of a type tells.
abbrev pub TellsType : Table → ℕ → Result States RestoreFault → Type 0
TellsType table type_index (Ok states) = HasRowsOf table type_index states
TellsType table type_index (Err (Duplicate found first second)) = (found ≡ type_index) × IsFirstOfType table type_index first second
TellsType table type_index (Err Memory) = Unit {0}

-- The previous states have the rows of the types below this one, no two of a type equal, and the current ones have none.
pub record HasTypesBelow (table : Table) (count : ℕ) (maps : List States) : Type 0 where
  pub previous : previous_of maps ≡ take count table
  pub current : current_of maps ≡ no_rows count
  pub distinct : (type_index : ℕ) → type_index < count → HasDistinctRows table type_index

-- What a fault tells of a table.
abbrev pub TellsFault : Table → RestoreFault → Type 0
TellsFault table (Duplicate type_index first second) = IsFirstDuplicate table type_index first second
TellsFault table Memory = Unit {0}
