-- A table whose rows fit their types, are in range and name live rows.
use Rattle.std.specs.Prelude.{List}
use Rattle.schema_model.specs.declared.schema.Schema.{Schema}
use Rattle.row_model.specs.Table.{Table, IsTableOf, IsClosed}

-- the table is one of the schemas, and closed
pub record IsClosedTableOf (schemas : List Schema) (table : Table) : Type 0 where
  pub fits : IsTableOf schemas table
  pub closed : IsClosed schemas table
