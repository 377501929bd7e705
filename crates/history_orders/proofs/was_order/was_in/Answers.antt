use Rattle.std.proofs.Common.{ap, ◌∙◌}
use Rattle.schema_model.specs.Parts.{index_of_type}
use Rattle.hol_orders.specs.declared.order_stop.OrderStop.{OrderStop}
use Rattle.hollow_machine.specs.HistoryOrders.{ShowsOld}
use Rattle.history_orders.proofs.Typed.{of_index}
use Rattle.history_orders.proofs.was_order.was_in.Goals as goal

pub returns-in-Some-clause-reply : goal.returns-in-Some-clause-reply
returns-in-Some-clause-reply g c =
    of_index OrderStop (g.R.Rows.schemas c.args.rows.now) c.model.result.now (g.R.Rows.table c.args.rows.now) c.args.name.now (ShowsOld c.args.name.now c.args.ordinal) c.model.ensures.model c.index_of.result
    c.in-Some.type_index c.was_row.result (c.index_of.ensures.value ∙ ap (index_of_type c.model.result.now) c.text.ensures) c.in-Some.is c.was_row.ensures.reply
