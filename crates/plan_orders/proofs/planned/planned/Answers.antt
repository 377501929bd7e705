use Rattle.plan_orders.proofs.Planning.{plan_blobs}
use Rattle.plan_orders.proofs.planned.planned.Goals as goal

pub returns-clause-blobs : goal.returns-clause-blobs
returns-clause-blobs g c = plan_blobs c.from_vec.result c.args.from c.args.to c.in_ok-blobs.blobs c.in_ok-blobs.ensures.plan
