use Rattle.std.proofs.Common.{ap, ◌∙◌}
use Rattle.serde_json.specs.View.{view}
use Rattle.schema_model.specs.Parts.{index_of_type}
use Rattle.hol_orders.specs.declared.order_stop.OrderStop.{OrderStop}
use Rattle.hollow_machine.specs.HistoryOrders.{ShowsOldKey}
use Rattle.history_orders.proofs.Typed.{of_index}
use Rattle.history_orders.proofs.was_get_order.was_get_in.Goals as goal

pub returns-in-Some-clause-reply : goal.returns-in-Some-clause-reply
returns-in-Some-clause-reply g c =
    of_index OrderStop (g.R.Rows.schemas c.args.rows.now) c.model.result.now (g.R.Rows.table c.args.rows.now) c.args.name.now (ShowsOldKey c.args.name.now (view c.args.values.now)) c.model.ensures.model c.index_of.result
    c.in-Some.type_index c.was_get_of.result (c.index_of.ensures.value ∙ ap (index_of_type c.model.result.now) c.text.ensures) c.in-Some.is c.was_get_of.ensures.reply
