use Rattle.hol_orders.specs.declared.order_stop.OrderStop.{OrderStop}
use Rattle.hollow_machine.specs.Kept.{reader_of}
use Rattle.consumer_orders.proofs.Stepping.{steps_between}
use Rattle.consumer_orders.proofs.step_order.step.Goals as goal

pub returns-clause-step : goal.returns-clause-step
returns-clause-step g c =
    steps_between OrderStop c.args.from c.args.to c.between.result (g.S.BlobStore.seen c.args.store.now).held (reader_of c.args.consumer.now c.args.version.now c.args.history.now)
    (reader_of c.apply.new.consumer c.apply.new.version c.apply.new.history) c.apply.result c.between.ensures.name c.apply.ensures.step
