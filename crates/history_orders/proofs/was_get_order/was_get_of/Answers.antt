use Rattle.serde_json.specs.View.{view}
use Rattle.history_orders.proofs.Sought.{are_primary, are_resolved, has_primary}
use Rattle.history_orders.proofs.was_get_order.was_get_of.Goals as goal

pub was_get_along-requires-clause-resolved : goal.was_get_along-requires-clause-resolved
was_get_along-requires-clause-resolved g c =
    are_resolved (g.R.Rows.schemas c.args.rows.now) c.model.result.now c.args.type_index c.args.name.now c.new.result c.in_ok-paths.field-0 c.model.ensures.model c.new.ensures c.in_ok-paths.ensures
    c.in-Resolved.paths c.in-Resolved.is

pub returns-in-Resolved-clause-reply : goal.returns-in-Resolved-clause-reply
returns-in-Resolved-clause-reply g c = λ now same.
    let schemas = g.R.Rows.schemas c.args.rows.now in
    let primary = are_primary schemas c.model.result.now c.args.type_index c.args.name.now c.new.result c.in_ok-paths.field-0 c.model.ensures.model c.new.ensures c.in_ok-paths.ensures
    c.in-Resolved.paths c.in-Resolved.is in
    c.was_get_along.ensures.reply now c.args.name.now same
    (has_primary (g.R.Rows.table c.args.rows.now) c.args.type_index (view c.args.values.now) now schemas same c.in-Resolved.paths primary)
