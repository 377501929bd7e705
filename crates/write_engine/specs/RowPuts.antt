-- A row that is put into a cycle as it is: which rows may be, and what each answer tells.
use Rattle.std.specs.Prelude.{List, ℕ, ◌≡◌, ◌^◌, Some, slice_get, All, Result, Ok, Err}
use Rattle.schema_model.specs.declared.schema.Schema.{Schema}
use Rattle.row_model.specs.declared.row.Row.{Row}
use Rattle.row_model.specs.Row.{FitsShape, IsRowInRange, references_of_row}
use Rattle.row_model.specs.Table.{Table, IsLiveByName}
use Rattle.row_packing.specs.Written.{IsStored}
use Rattle.ordinal_map.specs.Assign.{IsPut}
use Rattle.ordinal_map.specs.declared.fault.PutRowFault.{PutRowFault}
use Rattle.ordinal_map.specs.declared.fault.PutRowFault.TheVariants.{TooMany, Memory}
use Rattle.write_engine.specs.Cycle.{PutsRow, rows_in}

-- The row may stand in a type beside the rows of a table: it fits the type, its numbers are in range, a blob can hold it, and each row that it names is
-- live.
pub record FitsRow (schemas : List Schema) (table : Table) (type_index : ℕ) (row : Row) : Type 0 where
  pub schema : Schema
  pub type : slice_get schemas type_index ≡ Some schema
  pub fits : FitsShape schema.shape row
  pub range : IsRowInRange row
  pub stored : IsStored row
  pub live : All (λ named. IsLiveByName schemas table named.0 named.1) (references_of_row schema.shape row)

-- What each answer tells: that the row is put under this ordinal; or that its ordinal would be 2^22. Where it is not put the rows stay as they were.
abbrev pub TellsRowPut : Table → ℕ → Row → Table → Result ℕ PutRowFault → Table → Type 0
TellsRowPut previous type_index row before (Ok ordinal) after = PutsRow previous type_index row before ordinal after
TellsRowPut previous type_index row before (Err TooMany) after = IsPut (rows_in previous type_index) (rows_in before type_index) row (2 ^ 22) × (after ≡ before)
TellsRowPut previous type_index row before (Err Memory) after = after ≡ before
