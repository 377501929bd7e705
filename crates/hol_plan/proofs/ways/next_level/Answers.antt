use Rattle.hol_plan.specs.Ways.{way_at}
use Rattle.hol_plan.proofs.Levels.{advance, leveling_more}
use Rattle.hol_plan.proofs.ways.next_level.Goals as goal

pub loop-place-preserved : goal.loop-place-preserved
loop-place-preserved c = leveling_more c.args.steps.now c.args.level.now c.loop-place.place-index c.args.distance c.args.ways.now.items c.loop-place.ways.items c.reach.new.ways.items
    c.loop-place.next.items c.reach.new.next.items c.steps_to.result.now c.loop-place-test.true c.steps_to.ensures c.reach.ensures.len c.in_ok-reach.ensures.count c.in_ok-reach.ensures.front c.loop-place.invariant

pub returns-clause-front : goal.returns-clause-front
returns-clause-front c = λ end front.
    advance c.args.steps.now end c.args.distance c.args.level.now c.loop-place.place-index (way_at c.loop-place.ways.items) c.loop-place.next.items c.loop-place-test.false (c.loop-place.invariant.front end front)
