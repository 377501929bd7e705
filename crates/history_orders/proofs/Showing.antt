-- What the orders `was` and `wasget` show of a type of a model in a table.
use Rattle.std.proofs.Common.{◌≡◌, ◌<◌, ◌≤◌, ℕ, List, [], ◌∷◌, Ok, get_or, length, refl, sym, subst, arith}
use Rattle.serde_json.specs.Data.{Data}
use Rattle.serde_json.specs.View.{view}
use Rattle.serde_json.specs.declared.value.Value.{Value}
use Rattle.schema_model.specs.declared.limit.Limit.TheVariants.{Nodes}
use Rattle.schema_model.specs.declared.schema.Schema.{Schema}
use Rattle.schema_model.specs.Limit.{number_of_limit}
use Rattle.row_model.specs.PlainTree.{node_count}
use Rattle.row_model.specs.Table.{IsLive, Table}
use Rattle.row_model.specs.Unfold.{unfold_row}
use Rattle.record_json.specs.PrintTree.{PrintsTree}
use Rattle.read_engine.specs.Position.{Position}
use Rattle.hol_answers.specs.declared.reply.Reply.TheVariants as reply
use Rattle.hollow_machine.specs.HistoryOrders.{HaveKey, ShowsOld, ShowsOldKey}
use Rattle.history_orders.specs.Told.{TellsRecord}

-- A list of one.
pub one_of : (ordinals : List ℕ) → 1 ≤ length ordinals → length ordinals < 2 → ordinals ≡ get_or ordinals 0 0 ∷ []
one_of [] some few = absurd (omega (arith, some))
one_of (ordinal ∷ []) some few = refl
one_of (ordinal ∷ next ∷ rest) some few = absurd (omega (arith, few))

module _ (schemas : List Schema) (table : Table) (t ordinal : ℕ) (now : Position) (same : now.schemas ≡ schemas) where
  -- the record prints so, within the limit
  abbrev IsPrinted : Value → List Schema → Type 0
  IsPrinted value model = (node_count (unfold_row model table t ordinal) ≤ number_of_limit Nodes) × PrintsTree model t (unfold_row model table t ordinal) (view value)

  here : (value : Value) → TellsRecord schemas table t ordinal (Ok value) → IsPrinted value now.schemas
  here value tells = subst (IsPrinted value) (sym same) tells

  -- The record of a row is shown.
  pub was_shown : (name : List ℕ) (value : Value) → IsLive table t ordinal → TellsRecord schemas table t ordinal (Ok value) → ShowsOld name ordinal table now t (reply.Was value)
  was_shown name value live tells = let printed = here value tells in (live, printed.0, printed.1)

  -- The record of the one row that has the key is shown.
  pub key_shown : (name : List ℕ) (values : Data) (value : Value) → HaveKey values table now t (ordinal ∷ []) → TellsRecord schemas table t ordinal (Ok value) →
      ShowsOldKey name values table now t (reply.WasGet ordinal value)
  key_shown name values value have tells = let printed = here value tells in (have, printed.0, printed.1)
