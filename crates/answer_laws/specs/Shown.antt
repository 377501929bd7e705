-- What the orders that show records need to know of a machine: that the records can be shown; and when that is so.
use Rattle.std.specs.Prelude.{ℕ, List, [], All, IfSome}
use Rattle.serde_json.specs.View.{view}
use Rattle.serde_json.specs.declared.value.Value.{Value}
use Rattle.schema_model.specs.declared.schema.Schema.{Schema}
use Rattle.row_model.specs.Table.{IsClosed, IsLive, IsTableOf, Table}
use Rattle.row_model.specs.Unfold.{unfold_row}
use Rattle.record_json.specs.PrintTree.{PrintsTree}
use Rattle.hol_history.specs.History.{table_then}
use Rattle.read_engine.specs.Position.{IsPosition, Position, rows_now}
use Rattle.hollow_machine.specs.State.{Machine}

-- That the record of a live row of the table has no JSON cannot be.
abbrev pub HasJson : List Schema → Table → Type 0
HasJson schemas table = (t ordinal : ℕ) → IsLive table t ordinal → ((json : Value) → PrintsTree schemas t (unfold_row schemas table t ordinal) (view json) → ⊥) → ⊥

-- So it is with the rows of the consumer's state, those from before its last step, and the older ones that are kept.
pub record IsShown (machine : Machine) : Type 0 where
  pub now : IfSome machine.consumer (λ now. HasJson now.schemas (rows_now now))
  pub before : IfSome machine.consumer (λ now. HasJson now.schemas now.before)
  pub past : IfSome machine.consumer (λ now. (version : ℕ) → IfSome (table_then machine.past version) (HasJson now.schemas))

-- A closed table of the model.
abbrev pub IsWhole : List Schema → Table → Type 0
IsWhole schemas table = IsTableOf schemas table × IsClosed schemas table

-- The position has a model, and both of its states are closed tables of it.
abbrev pub HasTables : Position → Type 0
HasTables now = IsPosition (record now { indexes = []; walks = [] })

-- So it is where the consumer stands, and the older states that are kept are closed tables of its model.
abbrev pub HasWhole : Machine → Type 0
HasWhole machine = IfSome machine.consumer (λ now. HasTables now × All (λ pair. IsWhole now.schemas pair.1) machine.past)
