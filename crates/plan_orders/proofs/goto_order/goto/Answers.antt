use Rattle.hol_orders.specs.declared.order_stop.OrderStop.{OrderStop}
use Rattle.plan_orders.proofs.Going.{gone, not_gone}
use Rattle.plan_orders.proofs.goto_order.goto.Goals as goal

pub returns-in_default-clause-step : goal.returns-in_default-clause-step
returns-in_default-clause-step g c =
    not_gone OrderStop (g.S.BlobStore.seen c.args.store.now).held c.args.wanted c.args.consumer.now c.args.version.now c.args.history.now c.in_ok-blobs.field-0 c.in_default.is c.in_ok-blobs.ensures.plan

pub returns-clause-step : goal.returns-clause-step
returns-clause-step g c =
    gone OrderStop (g.S.BlobStore.seen c.args.store.now).held (g.S.BlobStore.seen c.planned.new.store).held c.args.wanted c.args.consumer.now c.go_along.new.consumer c.args.version.now c.go_along.new.version
    c.args.history.now c.go_along.new.history c.in_ok-blobs.field-0 c.in-Some.blobs c.as_slice.result.now _ c.in_ok-blobs.ensures.kept c.in-Some.is c.as_slice.ensures c.in_ok-blobs.ensures.plan
    c.in_ok-applied.ensures.goes c.len.ensures c.tag.ensures
