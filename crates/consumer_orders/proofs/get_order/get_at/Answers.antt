use Rattle.std.proofs.Common.{◌<◌, ◌≤◌, [], length, refl, arith}
use Rattle.serde_json.specs.View.{view}
use Rattle.hol_orders.specs.declared.order_stop.OrderStop.{OrderStop}
use Rattle.consumer_orders.proofs.LookingUp.{found_one}
use Rattle.consumer_orders.proofs.get_order.get_at.Goals as goal

pub returns-in-len1-clause-reply : goal.returns-in-len1-clause-reply
returns-in-len1-clause-reply c =
    let some : 1 ≤ length c.as_slice.result.now = omega (arith, c.in-len1.len_at_least) in
    let few : length c.as_slice.result.now < 2 = omega (arith, c.in-len1.len_below) in
    found_one OrderStop c.args.consumer.now c.args.name.now [] (view c.args.values.now) c.args.type_index c.in_ok-ordinals.field-0 c.as_slice.result.now c.in-Ordinals.ordinals
    c.now.result.schemas c.now.result.table c.show_found.result c.in_ok-ordinals.ensures refl c.in-Ordinals.is c.as_slice.ensures some few c.now.ensures.schemas c.now.ensures.table
    c.show_found.ensures.reply
