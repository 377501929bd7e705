use Rattle.std.proofs.Common.{Option, Some, subst, sym}
use Rattle.hol_orders.specs.Parts.{asked_change}
use Rattle.hol_orders.specs.declared.order_stop.OrderStop.{OrderStop}
use Rattle.hollow_machine.specs.ChangeOrder.{ChangeStep}
use Rattle.hollow_machine.specs.Kept.{MovesProducer}
use Rattle.hollow_machine.specs.Left.{HaltsProducer}
use Rattle.hollow_machine.specs.Puts.{CyclePuts}
use Rattle.hollow_machine.specs.Records.{cycle_of_change}
use Rattle.write_engine.specs.Production.{Production}
use Rattle.producer_orders.proofs.Cycling.{undone}
use Rattle.change_orders.proofs.Changing.{for_kept, kept_for, no_producer}
use Rattle.change_orders.proofs.change_order.change.Goals as goal

pub returns-in-Some-clause-step : goal.returns-in-Some-clause-step
returns-in-Some-clause-step g c =
    let held = (g.S.BlobStore.seen c.args.store.now).held in
    let held' = (g.S.BlobStore.seen c.change_of.new.store).held in
    subst (λ (old : Option Production). MovesProducer (λ machine reply next. ChangeStep machine (asked_change c.args.next.now) reply next) held old held' (Some c.change_of.new.producer) c.change_of.result)
    (sym c.in-Some.is) c.change_of.ensures.step

pub returns-in-Some-clause-halts : goal.returns-in-Some-clause-halts
returns-in-Some-clause-halts g c =
    let held = (g.S.BlobStore.seen c.args.store.now).held in
    let held' = (g.S.BlobStore.seen c.change_of.new.store).held in
    subst (λ (old : Option Production). HaltsProducer (CyclePuts (cycle_of_change (asked_change c.args.next.now))) held old held' c.change_of.result)
    (sym c.in-Some.is) c.change_of.ensures.halts

pub returns-in-None-clause-step : goal.returns-in-None-clause-step
returns-in-None-clause-step g c = no_producer (asked_change c.args.next.now) (g.S.BlobStore.seen c.args.store.now).held c.args.producer.now OrderStop c.in-None.is

pub returns-in-Some-clause-undone : goal.returns-in-Some-clause-undone
returns-in-Some-clause-undone g c = undone c.change_of.result c.args.producer.now _ c.change_of.new.producer c.in-Some.is c.change_of.ensures.undone

pub change_of-requires-clause-edits : goal.change_of-requires-clause-edits
change_of-requires-clause-edits g c = for_kept c.args.producer.now _ c.args.edits.now c.in-Some.is c.requires.edits

pub returns-in-Some-clause-edits : goal.returns-in-Some-clause-edits
returns-in-Some-clause-edits g c = kept_for c.change_of.new.producer c.change_of.new.edits c.change_of.ensures.edits
