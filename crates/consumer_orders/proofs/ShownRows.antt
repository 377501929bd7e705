-- What the orders `row` and `get` show of a type of a position that has these rows.
use Rattle.std.proofs.Common.{◌≡◌, ◌≤◌, ℕ, List, [], ◌∷◌, sym, subst}
use Rattle.serde_json.specs.Data.{Data}
use Rattle.serde_json.specs.View.{view}
use Rattle.serde_json.specs.declared.value.Value.{Value}
use Rattle.schema_model.specs.declared.limit.Limit.TheVariants.{Nodes}
use Rattle.schema_model.specs.declared.schema.Schema.{Schema}
use Rattle.schema_model.specs.Limit.{number_of_limit}
use Rattle.row_model.specs.PlainTree.{node_count}
use Rattle.row_model.specs.Table.{Table, IsLive}
use Rattle.row_model.specs.Unfold.{unfold_row}
use Rattle.record_json.specs.PrintTree.{PrintsTree}
use Rattle.read_engine.specs.Position.{Position, rows_now}
use Rattle.hol_answers.specs.declared.reply.Reply.TheVariants as reply
use Rattle.hollow_machine.specs.KeyOrders.{FindsUnder, ShowsFound}
use Rattle.hollow_machine.specs.RowOrders.{ShowsRow}

-- the record of a live row prints so, within the limit
abbrev IsShown : ℕ → ℕ → Value → List Schema → Table → Type 0
IsShown t ordinal value schemas table =
    IsLive table t ordinal × (node_count (unfold_row schemas table t ordinal) ≤ number_of_limit Nodes) × PrintsTree schemas t (unfold_row schemas table t ordinal) (view value)

-- what holds of schemas and rows holds of a position that has them
pub of_position : (P : List Schema → Table → Type 0) (schemas schemas' : List Schema) (table table' : Table) → schemas' ≡ schemas → table' ≡ table → P schemas table → P schemas' table'
of_position P schemas schemas' table table' same rows holds = subst (λ (s : List Schema). P s table') (sym same) (subst (P schemas) (sym rows) holds)

-- The record of a row is shown.
pub is_shown : (schemas : List Schema) (table : Table) (name : List ℕ) (t ordinal : ℕ) (value : Value) (now : Position) → now.schemas ≡ schemas → rows_now now ≡ table →
    IsShown t ordinal value schemas table → ShowsRow name ordinal now t (reply.Row value)
is_shown schemas table name t ordinal value now same rows shown = of_position (IsShown t ordinal value) schemas now.schemas table (rows_now now) same rows shown

-- the record of a row prints so, within the limit
abbrev IsPrinted : ℕ → ℕ → Value → List Schema → Table → Type 0
IsPrinted t ordinal value schemas table = (node_count (unfold_row schemas table t ordinal) ≤ number_of_limit Nodes) × PrintsTree schemas t (unfold_row schemas table t ordinal) (view value)

-- The record of the one row that has the primary key is shown.
pub is_found : (schemas : List Schema) (table : Table) (name : List ℕ) (json : Data) (t ordinal : ℕ) (value : Value) (now : Position) → now.schemas ≡ schemas → rows_now now ≡ table →
    FindsUnder [] json now t (ordinal ∷ []) → IsPrinted t ordinal value schemas table → ShowsFound name json now t (reply.Get ordinal value)
is_found schemas table name json t ordinal value now same rows found printed =
    let here = of_position (IsPrinted t ordinal value) schemas now.schemas table (rows_now now) same rows printed in
    (found, here.0, here.1)
