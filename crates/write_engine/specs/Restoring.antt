-- Which producer the rows of a state make again, and which two equal rows are named where a type has such.
use Rattle.std.specs.Prelude.{List, ℕ, ℤ, ◌≡◌, ◌<◌, ◌≤◌, ◌^◌, false, Some, None, Result, Ok, Err, length}
use Rattle.schema_model.specs.declared.schema.Schema.{Schema}
use Rattle.row_model.specs.declared.row.Row.{Row}
use Rattle.row_model.specs.Table.{Table, IsLive, row_at}
use Rattle.write_engine.specs.Agreement.{HoldsOnce}
use Rattle.write_engine.specs.Cycle.{no_rows}
use Rattle.write_engine.specs.Production.{Production}
use Rattle.write_engine.specs.declared.restoring.RestoreFault.{RestoreFault}
use Rattle.write_engine.specs.declared.restoring.RestoreFault.TheVariants.{Duplicate, Memory}

-- each live ordinal is below 2^22
abbrev pub HasLowOrdinals : Table → Type 0
HasLowOrdinals table = (t ordinal : ℕ) → IsLive table t ordinal → ordinal < 2 ^ 22

-- two ordinals of a type, the lesser one first, have the same row
abbrev pub AreEqualRows : Table → ℕ → ℕ → ℕ → Type 0
AreEqualRows table t first second = (row : Row) × (first < second) × (row_at table t first ≡ Some row) × (row_at table t second ≡ Some row)

-- no two rows of the type are equal
abbrev pub HasDistinctRows : Table → ℕ → Type 0
HasDistinctRows table t = (first second : ℕ) → ¬ AreEqualRows table t first second

-- The equal rows of a type that are named: those of which the second one has the least ordinal.
pub record IsFirstOfType (table : Table) (type_index first second : ℕ) : Type 0 where
  pub equal : AreEqualRows table type_index first second
  pub least : (one other : ℕ) → AreEqualRows table type_index one other → second ≤ other

-- The equal rows of a table that are named: those of the first type that has such, in model order.
pub record IsFirstDuplicate (table : Table) (type_index first second : ℕ) : Type 0 where
  pub here : IsFirstOfType table type_index first second
  pub earlier : (before : ℕ) → before < type_index → HasDistinctRows table before

-- The producer whose previous state has these rows, under this tag and version, and whose cycle is open and has no rows.
abbrev pub restored_of : List Schema → Table → ℤ → ℕ → Production
restored_of schemas table tag version =
    record { schemas = schemas; previous = table; current = no_rows (length schemas); tag = tag; version = version; closed = false; over = None }

-- want of memory may come in place of any answer
abbrev pub IsFreeRestore : RestoreFault → Type 0
IsFreeRestore (Duplicate type_index first second) = ⊥
IsFreeRestore Memory = Unit {0}

-- What each answer tells: that no row stands twice, and which producer it is; or which equal rows are the first.
abbrev pub TellsRestored : List Schema → Table → ℤ → ℕ → Result Production RestoreFault → Type 0
TellsRestored schemas table tag version (Ok producer) = HoldsOnce table × (producer ≡ restored_of schemas table tag version)
TellsRestored schemas table tag version (Err (Duplicate type_index first second)) = IsFirstDuplicate table type_index first second
TellsRestored schemas table tag version (Err Memory) = Unit {0}
