use Rattle.hol_orders.specs.declared.order_stop.OrderStop.{OrderStop}
use Rattle.consumer_orders.proofs.Stepping.{no_state, without_tag}
use Rattle.consumer_orders.proofs.step_order.step_along.Goals as goal

pub returns-then-is_none-clause-step : goal.returns-then-is_none-clause-step
returns-then-is_none-clause-step g c =
    no_state OrderStop (g.S.BlobStore.seen c.args.store.now).held c.args.name.now c.args.to c.args.version.now c.args.history.now c.args.consumer.now (without_tag c.tag.result c.args.consumer.now c.tag.ensures c.if-is_none.ensures)
