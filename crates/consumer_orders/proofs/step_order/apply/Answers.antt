use Rattle.std.proofs.Common.{subst, sym}
use Rattle.hol_io.specs.declared.name.BlobName.{BlobName}
use Rattle.hol_orders.specs.declared.order_stop.OrderStop.{OrderStop}
use Rattle.hollow_machine.specs.Kept.{MovesReader, reader_of}
use Rattle.hollow_machine.specs.PlanOrders.{Applies}
use Rattle.consumer_orders.proofs.Stepping.{along_applies}
use Rattle.consumer_orders.proofs.step_order.apply.Goals as goal

pub returns-in-Snapshot-clause-step : goal.returns-in-Snapshot-clause-step
returns-in-Snapshot-clause-step g c =
    subst (λ (name : BlobName). MovesReader {E = OrderStop} (λ machine reply next. Applies machine name reply next) (g.S.BlobStore.seen c.args.store.now).held
    (reader_of c.args.consumer.now c.args.version.now c.args.history.now) (reader_of c.load.new.consumer c.load.new.version c.load.new.history) c.load.result) (sym c.in-Snapshot.is) c.load.ensures.step

pub returns-in-Delta-clause-step : goal.returns-in-Delta-clause-step
returns-in-Delta-clause-step g c =
    along_applies OrderStop c.args.name.now c.in-Delta.to (g.S.BlobStore.seen c.args.store.now).held (reader_of c.args.consumer.now c.args.version.now c.args.history.now)
    (reader_of c.step_along.new.consumer c.step_along.new.version c.step_along.new.history) c.step_along.result c.in-Delta.is c.step_along.ensures.step
