-- Some states seen as one: the rows that stand in the next halves of the types of a model, as a table.
use Rattle.std.specs.Prelude.{◌≡◌, List, map, All}
use Rattle.schema_model.specs.declared.schema.Schema.{Schema}
use Rattle.row_model.specs.Table.{Table, IsTableOf}
use Rattle.type_state.specs.State.{Half, State, IsLaidOut}

-- The rows of each type.
abbrev pub table_of : List Half → Table
table_of halves = map (λ half. half.rows) halves

-- The halves that come next, those beside the current ones.
abbrev pub next_halves : List State → List Half
next_halves states = map (λ state. state.other) states

-- Each type of the model has its state, whose next half is laid out, and the rows there fit the types.
pub record AreNext (schemas : List Schema) (states : List State) : Type 0 where
  pub named : map (λ state. state.schema) states ≡ schemas
  pub laid : All (λ state. IsLaidOut state.schema state.other) states
  pub fits : IsTableOf schemas (table_of (next_halves states))
