use Rattle.std.proofs.Common.{Err, List, ℕ, sym, subst}
use Rattle.serde_json.specs.View.{view}
use Rattle.json_values.specs.declared.fault.KeyFault.{KeyFault}
use Rattle.hollow_machine.specs.HistoryOrders.{HaveKey}
use Rattle.history_orders.specs.Told.{TellsKeyed}
use Rattle.history_orders.proofs.Sought.{have_key, of_no_key}
use Rattle.history_orders.proofs.was_get_order.was_get_along.Goals as goal

pub returns-in-Ok-clause-reply : goal.returns-in-Ok-clause-reply
returns-in-Ok-clause-reply g c =
    let schemas = g.R.Rows.schemas c.args.rows.now in
    let table = g.R.Rows.table c.args.rows.now in
    let values = view c.args.values.now in
    λ now name same has.
    c.was_one.ensures.reply now name values same
    (subst (λ (ordinals : List ℕ). HaveKey values table now c.args.type_index ordinals) (sym c.as_slice.ensures)
    (have_key table c.args.type_index values now schemas same c.args.paths.now c.in-Ok.ordinals has c.in-Ok.ensures))

pub returns-in-Err-Shape-clause-reply : goal.returns-in-Err-Shape-clause-reply
returns-in-Err-Shape-clause-reply g c =
    let schemas = g.R.Rows.schemas c.args.rows.now in
    let table = g.R.Rows.table c.args.rows.now in
    let values = view c.args.values.now in
    λ now name same has.
    of_no_key table c.args.type_index values now schemas same name c.args.paths.now has
    (subst (λ (fault : KeyFault). TellsKeyed schemas table c.args.type_index c.args.paths.now values (Err fault)) c.in-Err-Shape.field-0-is c.in-Err-Shape.ensures)
