-- A row that leaves a cycle: which rows may, and what is left.
use Rattle.std.specs.Prelude.{List, ℕ, ◌≡◌, Some, Contains, slice_get, slice_set}
use Rattle.std.specs.FinMap.{remove}
use Rattle.schema_model.specs.declared.schema.name.Name.{Name}
use Rattle.schema_model.specs.declared.schema.Schema.{Schema}
use Rattle.schema_model.specs.Parts.{index_of_type}
use Rattle.row_model.specs.declared.row.Row.{Row}
use Rattle.row_model.specs.Row.{references_of_row}
use Rattle.row_model.specs.Table.{Table, IsLive, row_at}
use Rattle.write_engine.specs.Cycle.{rows_in}

-- a row of the table names the row of the type under the ordinal
pub record IsNamed (schemas : List Schema) (table : Table) (named_type ordinal : ℕ) : Type 0 where
  pub type_index : ℕ
  pub place : ℕ
  pub schema : Schema
  pub row : Row
  pub name : Name
  pub schema_is : slice_get schemas type_index ≡ Some schema
  pub row_is : row_at table type_index place ≡ Some row
  pub names : Contains (references_of_row schema.shape row) (name, ordinal)
  pub type_is : index_of_type schemas name ≡ Some named_type

-- The row may leave the table, which stays closed: it is there, and no row names it.
pub record MayLeave (schemas : List Schema) (table : Table) (type_index ordinal : ℕ) : Type 0 where
  pub live : IsLive table type_index ordinal
  pub unnamed : ¬ IsNamed schemas table type_index ordinal

-- the table with a row less
abbrev pub without_row : Table → ℕ → ℕ → Table
without_row table t ordinal = slice_set table t (remove (rows_in table t) ordinal)
