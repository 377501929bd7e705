-- The rows before a step that a history keeps.
use Rattle.std.specs.Prelude.{◌<◌, List, [], ℕ, length, slice_get, unwrap_or, refl}
use Rattle.std.specs.Coded.{Coded, code_by, coded×, coded_ℕ, coded_list}
use Rattle.std.specs.FinMap.{code}
use Rattle.std.specs.Option.{option_map}
use Rattle.schema_model.specs.declared.schema.Schema.{Schema}
use Rattle.schema_model.specs.contracts.schema.Schema as schema_contract
use Rattle.row_model.specs.contracts.row.Row as row_contract
use Rattle.row_model.specs.Table.{Table}
use Rattle.hol_history.specs.History.{PastStep, StandsOn, tables_of}

-- the schemas of the model, and the rows by type and ordinal
pub record OldState : Type 0 where
  pub schemas : List Schema
  pub table : Table

-- the table before the step at a place, the newest step standing at 0, where a table stands behind the newest one
abbrev pub table_at : Table → List PastStep → ℕ → Table
table_at now steps place = unwrap_or (option_map (λ pair. pair.1) (slice_get (tables_of now steps) place)) []

abbrev pub old_state_code : Coded OldState
old_state_code =
    code_by (List Schema × Table) (coded× (coded_list (schema_contract.the_row).coded) (coded_list (code coded_ℕ (row_contract.the_row).coded)))
    (λ c. (c.schemas, c.table)) (λ q. record { schemas = q.0; table = q.1 }) (λ _. refl)

-- The place is that of a step, and the steps lead to the table.
pub record IsThen (schemas : List Schema) (now : Table) (steps : List PastStep) (place : ℕ) : Type 0 where
  pub within : place < length steps
  pub stands : StandsOn schemas now steps
