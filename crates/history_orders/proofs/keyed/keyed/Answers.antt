use Rattle.std.proofs.Common.{sym, subst, List}
use Rattle.std.specs.Prelude.{All}
use Rattle.serde_json.specs.View.{view}
use Rattle.schema_model.specs.declared.schema.Schema.{Schema}
use Rattle.row_model.specs.Key.{IsResolved}
use Rattle.consumer_orders.proofs.KeyWays.{own_types}
use Rattle.history_orders.proofs.Matching.{spells_none}
use Rattle.history_orders.proofs.keyed.keyed.Goals as goal

pub key_from-requires : goal.key_from-requires
key_from-requires g c =
    record { resolved = subst (λ (schemas : List Schema). All (λ path. IsResolved schemas path.type_index path) c.args.paths.now) (sym c.model.ensures.model) (own_types (g.R.Rows.schemas c.args.rows.now) c.args.type_index c.args.paths.now c.requires.resolved) }

pub returns-in_err-key : goal.returns-in_err-key
returns-in_err-key g c =
    spells_none (g.R.Rows.schemas c.args.rows.now) c.model.result.now (g.R.Rows.table c.args.rows.now) c.args.type_index c.args.paths.now (view c.args.values.now) c.in_err-key.field-0.0 c.from_residual.result
    c.model.ensures.model c.in_err-key.ensures.tells c.from_residual.ensures.1
