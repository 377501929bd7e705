use Rattle.std.proofs.Common.{ℕ, ℤ, true, Some, FitsSigned, arith, subst, sym}
use Rattle.std.specs.Int.{w64}
use Rattle.film_script.specs.Films.{cycle_tag, films}
use Rattle.hollow_machine.specs.CycleOrder.{CycleStep}
use Rattle.hollow_machine.specs.Kept.{MovesProducer}
use Rattle.hollow_machine.specs.Left.{HaltsProducer}
use Rattle.hollow_machine.specs.Puts.{CyclePuts}
use Rattle.hollow_machine.specs.Records.{given}
use Rattle.state_blobs.proofs.Tags.{at_tag}
use Rattle.producer_orders.proofs.cycle_order.film_cycle.Goals as goal

-- what holds at the cycle's version and tag as they are made holds at the numbers that they are
pub returns-clause-halts : goal.returns-clause-halts
returns-clause-halts g c =
    let held = (g.S.BlobStore.seen c.args.store.now).held in
    let held' = (g.S.BlobStore.seen c.cycle_of.new.store).held in
    let add = given (films c.args.seed c.args.rows c.args.cycle) in
    let fits : FitsSigned w64 (cycle_tag c.args.seed c.args.cycle) = omega (arith, c.requires.seed, c.requires.cycle) in
    let told = subst (λ (t : ℤ). FitsSigned w64 t) (sym c.cycle_tag-tag.ensures) fits in
    let at = at_tag (λ (t : ℤ). HaltsProducer (CyclePuts (record { version = c.from.result; tag = t; add = add; snapshot = true })) held (Some c.args.producer.now) held' c.cycle_of.result)
    c.cycle_tag-tag.result told c.cycle_of.ensures.halts in
    let tagged = subst (λ (t : ℤ). HaltsProducer (CyclePuts (record { version = c.from.result; tag = t; add = add; snapshot = true })) held (Some c.args.producer.now) held' c.cycle_of.result)
    c.cycle_tag-tag.ensures at in
    subst (λ (v : ℕ). HaltsProducer (CyclePuts (record { version = v; tag = cycle_tag c.args.seed c.args.cycle; add = add; snapshot = true })) held (Some c.args.producer.now) held' c.cycle_of.result)
    c.from.ensures tagged

pub returns-clause-step : goal.returns-clause-step
returns-clause-step g c =
    let held = (g.S.BlobStore.seen c.args.store.now).held in
    let held' = (g.S.BlobStore.seen c.cycle_of.new.store).held in
    let add = given (films c.args.seed c.args.rows c.args.cycle) in
    let fits : FitsSigned w64 (cycle_tag c.args.seed c.args.cycle) = omega (arith, c.requires.seed, c.requires.cycle) in
    let told = subst (λ (t : ℤ). FitsSigned w64 t) (sym c.cycle_tag-tag.ensures) fits in
    let at = at_tag (λ (t : ℤ). MovesProducer (λ machine reply after. CycleStep machine (record { version = c.from.result; tag = t; add = add; snapshot = true }) reply after) held (Some c.args.producer.now) held' (Some c.cycle_of.new.producer) c.cycle_of.result)
    c.cycle_tag-tag.result told c.cycle_of.ensures.step in
    let tagged = subst (λ (t : ℤ). MovesProducer (λ machine reply after. CycleStep machine (record { version = c.from.result; tag = t; add = add; snapshot = true }) reply after) held (Some c.args.producer.now) held' (Some c.cycle_of.new.producer) c.cycle_of.result)
    c.cycle_tag-tag.ensures at in
    subst (λ (v : ℕ). MovesProducer (λ machine reply after. CycleStep machine (record { version = v; tag = cycle_tag c.args.seed c.args.cycle; add = add; snapshot = true }) reply after) held (Some c.args.producer.now) held' (Some c.cycle_of.new.producer) c.cycle_of.result)
    c.from.ensures tagged
