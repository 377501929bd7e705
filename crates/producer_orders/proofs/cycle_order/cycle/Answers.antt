use Rattle.std.proofs.Common.{Option, Some, subst, sym}
use Rattle.hol_orders.specs.Parts.{asked_state}
use Rattle.hollow_machine.specs.CycleOrder.{CycleStep}
use Rattle.hollow_machine.specs.Kept.{MovesProducer}
use Rattle.hollow_machine.specs.Left.{HaltsProducer}
use Rattle.hollow_machine.specs.Puts.{CyclePuts}
use Rattle.hollow_machine.specs.Records.{asked_cycle}
use Rattle.write_engine.specs.Production.{Production}
use Rattle.hol_orders.specs.declared.order_stop.OrderStop.{OrderStop}
use Rattle.producer_orders.proofs.Cycling.{no_producer, undone}
use Rattle.producer_orders.proofs.cycle_order.cycle.Goals as goal

pub returns-in-Some-clause-step : goal.returns-in-Some-clause-step
returns-in-Some-clause-step g c =
    let held = (g.S.BlobStore.seen c.args.store.now).held in
    let held' = (g.S.BlobStore.seen c.spelled_cycle.new.store).held in
    subst (λ (old : Option Production). MovesProducer (λ machine reply next. CycleStep machine (asked_cycle (asked_state c.args.next.now)) reply next) held old held' (Some c.spelled_cycle.new.producer) c.spelled_cycle.result)
    (sym c.in-Some.is) c.spelled_cycle.ensures.step

pub returns-in-Some-clause-halts : goal.returns-in-Some-clause-halts
returns-in-Some-clause-halts g c =
    let held = (g.S.BlobStore.seen c.args.store.now).held in
    let held' = (g.S.BlobStore.seen c.spelled_cycle.new.store).held in
    subst (λ (old : Option Production). HaltsProducer (CyclePuts (asked_cycle (asked_state c.args.next.now))) held old held' c.spelled_cycle.result)
    (sym c.in-Some.is) c.spelled_cycle.ensures.halts

pub returns-in-None-clause-step : goal.returns-in-None-clause-step
returns-in-None-clause-step g c = no_producer (asked_cycle (asked_state c.args.next.now)) (g.S.BlobStore.seen c.args.store.now).held c.args.producer.now OrderStop c.in-None.is

pub returns-in-Some-clause-undone : goal.returns-in-Some-clause-undone
returns-in-Some-clause-undone g c = undone c.spelled_cycle.result c.args.producer.now _ c.spelled_cycle.new.producer c.in-Some.is c.spelled_cycle.ensures.undone
