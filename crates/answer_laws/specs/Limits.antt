-- Tables whose rows are within the limits of a state, of a model whose names are texts, and the machines that have such.
use Rattle.std.specs.Prelude.{◌≤◌, ℕ, List, All, IsUtf8, length}
use Rattle.schema_model.specs.declared.limit.Limit.TheVariants.{Bytes, Items}
use Rattle.schema_model.specs.declared.schema.Schema.{Schema}
use Rattle.schema_model.specs.Limit.{number_of_limit}
use Rattle.schema_model.specs.Schema.{EachName}
use Rattle.row_model.specs.declared.row.Row.{Row}
use Rattle.row_model.specs.Table.{EachRow, Table}
use Rattle.type_rows.specs.WordsHeld.{row_bytes}
use Rattle.hollow_machine.specs.State.{Machine}
use Rattle.answer_laws.specs.Ranges.{HoldsOfTables}

-- How many elements a list or a set has, or pairs a map.
abbrev pub element_count : Row → ℕ
element_count (Row.Object values) = 0
element_count (Row.List ordinals) = length ordinals
element_count (Row.Set ordinals) = length ordinals
element_count (Row.Map pairs) = length pairs

-- The STRING and BYTES of a row have no more bytes than a type may have, and it has no more elements.
pub record IsRowWithin (row : Row) : Type 0 where
  pub bytes : row_bytes row ≤ number_of_limit Bytes
  pub items : element_count row ≤ number_of_limit Items

-- The names of the model are texts, and each row is within the limits.
pub record IsWithinLimits (schemas : List Schema) (table : Table) : Type 0 where
  pub names : All (EachName IsUtf8) schemas
  pub rows : EachRow schemas table (λ schema row. IsRowWithin row)

-- So it is with the rows of the consumer's state, those from before its last step, and the older ones that are kept.
abbrev pub HasLimitedRows : Machine → Type 0
HasLimitedRows machine = HoldsOfTables IsWithinLimits machine
