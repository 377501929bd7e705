-- What a producer holds, and what its calls make of it.
use Rattle.std.specs.Prelude.{List, ℕ, ℤ, pos, ◌≡◌, ◌↔◌, Bool, false, Contains, Option, None, length, map, refl}
use Rattle.std.specs.Coded.{Coded, code_by, coded×, coded_ℕ, coded_ℤ, coded_bool, coded_list, coded_option}
use Rattle.std.specs.FinMap.{code, empty}
use Rattle.schema_model.specs.declared.limit.Limit.{Limit}
use Rattle.schema_model.specs.declared.schema.Schema.{Schema}
use Rattle.schema_model.specs.contracts.limit.Limit as limit_contract
use Rattle.schema_model.specs.contracts.schema.Schema as schema_contract
use Rattle.row_model.specs.contracts.row.Row as row_contract
use Rattle.row_model.specs.Row.{Rises}
use Rattle.row_model.specs.Table.{Table}
use Rattle.ordinal_map.specs.States.{States}
use Rattle.write_engine.specs.Agreement.{TablesAgree}
use Rattle.write_engine.specs.Cycle.{no_rows, rows_in}
use Rattle.write_engine.specs.Soundness.{IsClosedTableOf}
use Rattle.write_engine.specs.StoredRows.{AreStored}

-- the rows of the previous state, by type
abbrev pub previous_of : List States → Table
previous_of maps = map (λ states. states.previous) maps

-- the rows of the current state, by type
abbrev pub current_of : List States → Table
current_of maps = map (λ states. states.current) maps

-- no rows in either state
abbrev pub no_states : States
no_states = record { previous = empty; current = empty }

-- the states when the current one is dropped
abbrev pub undone : States → States
undone states = record states { current = empty }

-- the states when the current one becomes the previous one
abbrev pub advanced : States → States
advanced states = record { previous = states.current; current = empty }

-- the states when the current one takes all rows of the previous one
abbrev pub filled : States → States
filled states = record states { current = states.previous }

-- Both states are closed, their rows fit the types and a blob can hold them, and the two agree.
pub record IsProducing (schemas : List Schema) (maps : List States) : Type 0 where
  pub previous : IsClosedTableOf schemas (previous_of maps)
  pub current : IsClosedTableOf schemas (current_of maps)
  pub agree : TablesAgree (previous_of maps) (current_of maps)
  pub stored_previous : AreStored (previous_of maps)
  pub stored_current : AreStored (current_of maps)

-- The types whose rows differ in the two tables, rising.
pub record AreChanged (previous current : Table) (changed : List ℕ) : Type 0 where
  pub rising : Rises changed
  pub same : (type_index : ℕ) → Contains changed type_index ↔ (¬ (rows_in current type_index ≡ rows_in previous type_index))

-- The rows of the previous state and those of the cycle so far, by type; the previous state's tag and version; whether the cycle is closed, and the
-- limit that it passes where it is.
pub record Production : Type 0 where
  pub schemas : List Schema
  pub previous : Table
  pub current : Table
  pub tag : ℤ
  pub version : ℕ
  pub closed : Bool
  pub over : Option Limit

abbrev pub table_code : Coded Table
table_code = coded_list (code coded_ℕ (row_contract.the_row).coded)

abbrev pub production_code : Coded Production
production_code =
    code_by (List Schema × (Table × (Table × (ℤ × (ℕ × (Bool × Option Limit))))))
    (coded× (coded_list (schema_contract.the_row).coded) (coded× table_code (coded× table_code (coded× coded_ℤ (coded× coded_ℕ (coded× coded_bool (coded_option (limit_contract.the_row).coded)))))))
    (λ p. (p.schemas, (p.previous, (p.current, (p.tag, (p.version, (p.closed, p.over)))))))
    (λ q. record { schemas = q.0; previous = q.1.0; current = q.1.1.0; tag = q.1.1.1.0; version = q.1.1.1.1.0; closed = q.1.1.1.1.1.0; over = q.1.1.1.1.1.1 }) (λ _. refl)

-- The cycle's rows are dropped, and all else stays.
abbrev pub without_rows : Production → Production
without_rows old = record old { current = no_rows (length old.schemas); closed = false; over = None }

-- The cycle is the previous state, under this tag and version, and the next one has no rows.
abbrev pub advanced_to : ℤ → ℕ → Production → Production
advanced_to tag version old = record { schemas = old.schemas; previous = old.current; current = no_rows (length old.schemas); tag = tag; version = version; closed = false; over = None }

-- One of the two states seen alone: the schemas, and the rows of each type.
pub record Content : Type 0 where
  pub schemas : List Schema
  pub table : Table

abbrev pub content_code : Coded Content
content_code = code_by (List Schema × Table) (coded× (coded_list (schema_contract.the_row).coded) table_code) (λ c. (c.schemas, c.table)) (λ q. record { schemas = q.0; table = q.1 }) (λ _. refl)

-- A producer at version 0, without rows.
pub record IsStart (schemas : List Schema) (producer : Production) : Type 0 where
  pub schemas_are : producer.schemas ≡ schemas
  pub previous_is : producer.previous ≡ no_rows (length schemas)
  pub current_is : producer.current ≡ no_rows (length schemas)
  pub tag_is : producer.tag ≡ pos 0
  pub version_is : producer.version ≡ 0
  pub is_open : producer.closed ≡ false
  pub over_is : producer.over ≡ None
