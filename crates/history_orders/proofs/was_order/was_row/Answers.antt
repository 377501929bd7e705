use Rattle.std.proofs.Common.{rules}
use Rattle.row_model.specs.Table.{IsLive}
use Rattle.history_orders.proofs.Showing.{was_shown}
use Rattle.history_orders.proofs.was_order.was_row.Goals as goal

pub returns-in-Ok-clause-reply : goal.returns-in-Ok-clause-reply
returns-in-Ok-clause-reply g c =
    let schemas = g.R.Rows.schemas c.args.rows.now in
    let table = g.R.Rows.table c.args.rows.now in
    let live : IsLive table c.args.type_index c.args.ordinal = search rules in
    λ now same. was_shown schemas table c.args.type_index c.args.ordinal now same c.args.name.now c.in-Ok.value live c.in-Ok.ensures
