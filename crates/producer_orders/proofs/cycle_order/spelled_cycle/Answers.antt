use Rattle.std.proofs.Common.{ℤ, Bool, Some, subst}
use Rattle.hol_orders.specs.Parts.{added}
use Rattle.hollow_machine.specs.CycleOrder.{CycleStep}
use Rattle.hollow_machine.specs.Kept.{MovesProducer}
use Rattle.hollow_machine.specs.Left.{HaltsProducer}
use Rattle.hollow_machine.specs.Puts.{CyclePuts}
use Rattle.hollow_machine.specs.Records.{spelled}
use Rattle.state_blobs.proofs.Tags.{at_tag}
use Rattle.producer_orders.proofs.cycle_order.spelled_cycle.Goals as goal

pub returns-clause-step : goal.returns-clause-step
returns-clause-step g c =
    let held = (g.S.BlobStore.seen c.args.store.now).held in
    let held' = (g.S.BlobStore.seen c.cycle_of.new.store).held in
    let next = c.args.next.now in
    let asked = c.unwrap_or-with_snapshot.result in
    let moves = at_tag (λ (t : ℤ). MovesProducer (λ machine reply after. CycleStep machine (record { version = next.version; tag = t; add = spelled (added next.add); snapshot = asked }) reply after) held (Some c.args.producer.now) held' (Some c.cycle_of.new.producer) c.cycle_of.result)
    next.tag c.requires.order.1 c.cycle_of.ensures.step in
    subst (λ (b : Bool). MovesProducer (λ machine reply after. CycleStep machine (record { version = next.version; tag = next.tag; add = spelled (added next.add); snapshot = b }) reply after) held (Some c.args.producer.now) held' (Some c.cycle_of.new.producer) c.cycle_of.result)
    c.unwrap_or-with_snapshot.ensures moves

pub returns-clause-halts : goal.returns-clause-halts
returns-clause-halts g c =
    let held = (g.S.BlobStore.seen c.args.store.now).held in
    let held' = (g.S.BlobStore.seen c.cycle_of.new.store).held in
    let next = c.args.next.now in
    let asked = c.unwrap_or-with_snapshot.result in
    let halts = at_tag (λ (t : ℤ). HaltsProducer (CyclePuts (record { version = next.version; tag = t; add = spelled (added next.add); snapshot = asked })) held (Some c.args.producer.now) held' c.cycle_of.result)
    next.tag c.requires.order.1 c.cycle_of.ensures.halts in
    subst (λ (b : Bool). HaltsProducer (CyclePuts (record { version = next.version; tag = next.tag; add = spelled (added next.add); snapshot = b })) held (Some c.args.producer.now) held' c.cycle_of.result)
    c.unwrap_or-with_snapshot.ensures halts
