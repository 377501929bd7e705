-- Some rows as a whole: the table, and the schemas of its types.
use Rattle.std.specs.Prelude.{List, refl}
use Rattle.std.specs.Coded.{Coded, code_by, coded×, coded_ℕ, coded_list}
use Rattle.std.specs.FinMap.{code}
use Rattle.schema_model.specs.declared.schema.Schema.{Schema}
use Rattle.schema_model.specs.contracts.schema.Schema as schema_contract
use Rattle.row_model.specs.contracts.row.Row as row_contract
use Rattle.row_model.specs.Table.{RowMap, Table}

-- A table, and the schemas of its types.
pub record Content : Type 0 where
  pub schemas : List Schema
  pub table : Table

abbrev pub content_code : Coded Content
content_code =
    code_by (List Schema × Table) (coded× (coded_list (schema_contract.the_row).coded) (coded_list (code coded_ℕ (row_contract.the_row).coded))) (λ c. (c.schemas, c.table)) (λ p. record { schemas = p.0; table = p.1 }) (λ _. refl)

abbrev pub rows_code : Coded RowMap
rows_code = code coded_ℕ (row_contract.the_row).coded

abbrev pub table_code : Coded Table
table_code = coded_list rows_code
