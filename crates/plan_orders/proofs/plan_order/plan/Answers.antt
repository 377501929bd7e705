use Rattle.plan_orders.proofs.Planning.{not_shown, shown}
use Rattle.plan_orders.proofs.plan_order.plan.Goals as goal

pub returns-in-Some-clause-step : goal.returns-in-Some-clause-step
returns-in-Some-clause-step g c =
    shown (g.S.BlobStore.seen c.args.store.now).held c.args.version c.args.wanted c.in_ok-blobs.field-0 c.in-Some.blobs c.in-Some.is c.in_ok-blobs.ensures.plan

pub returns-in-None-clause-step : goal.returns-in-None-clause-step
returns-in-None-clause-step g c = not_shown (g.S.BlobStore.seen c.args.store.now).held c.args.version c.args.wanted c.in_ok-blobs.field-0 c.in-None.is c.in_ok-blobs.ensures.plan
