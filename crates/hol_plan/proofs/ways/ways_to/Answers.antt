use Rattle.std.proofs.Common.{◌≡◌, ◌<◌, length, arith}
use Rattle.std.proofs.lemmas.Grind.{common_steps}
use Rattle.hol_plan.proofs.Levels.{first_levels, last_levels, more_levels, resized}
use Rattle.hol_plan.proofs.ways.ways_to.Goals as goal

pub levels-init : goal.levels-init
levels-init c = first_levels c.args.steps.now c.args.end c.args.places c.resize.new.self.items c.in_ok-level.level.items c.requires.end
    (resized c.new-ways.result.items c.resize.new.self.items c.args.places _ c.new-ways.ensures.items c.new-ways.ensures.len c.in_ok-resize.ensures.items) c.in_ok-level.ensures.items

pub levels-preserved : goal.levels-preserved
levels-preserved c =
    let some : 0 < length c.levels.level.items = grind (arith, common_steps) in
    more_levels c.args.steps.now c.args.end c.args.places c.levels.distance c.levels.ways.items c.next_level.new.ways.items c.levels.level.items c.deref.result.now c.in_ok-level-2.level.items
    c.deref.ensures.value some c.next_level.ensures.len c.in_ok-level-2.ensures.count (c.in_ok-level-2.ensures.front c.args.end) c.levels.invariant

pub returns-clause-ways : goal.returns-clause-ways
returns-clause-ways c =
    let none : length c.levels.level.items ≡ 0 = grind (arith, common_steps) in
    last_levels c.args.steps.now c.args.end c.args.places c.levels.distance c.levels.ways.items c.levels.level.items none c.levels.invariant
