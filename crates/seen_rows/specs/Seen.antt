-- Rows that are seen through another model, as contracts see them.
use Rattle.std.specs.Prelude.{List, refl}
use Rattle.std.specs.Coded.{Coded, code_by, coded×, coded_ℕ, coded_list}
use Rattle.std.specs.FinMap.{code}
use Rattle.schema_model.specs.declared.schema.Schema.{Schema}
use Rattle.schema_model.specs.contracts.schema.Schema as schema_contract
use Rattle.row_model.specs.contracts.row.Row as row_contract
use Rattle.row_model.specs.Table.{Table}

-- the model through which they are seen, and what is seen
pub record SeenRows : Type 0 where
  pub schemas : List Schema
  pub table : Table

abbrev pub seen_code : Coded SeenRows
seen_code =
    code_by (List Schema × Table) (coded× (coded_list (schema_contract.the_row).coded) (coded_list (code coded_ℕ (row_contract.the_row).coded)))
    (λ c. (c.schemas, c.table)) (λ q. record { schemas = q.0; table = q.1 }) (λ _. refl)
