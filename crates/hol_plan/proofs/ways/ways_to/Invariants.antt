use Rattle.std.proofs.Common.{◌+◌, length}
use Rattle.hol_plan.specs.Ways.{unreached}
use Rattle.hol_plan.proofs.Levels.{Levels}
use Rattle.hol_plan.proofs.ways.ways_to.Given as goal

abbrev pub invariant-levels : goal.invariant-levels
invariant-levels l = Levels l.steps l.end l.places l.distance l.ways.items l.level.items

abbrev pub decreases-levels : goal.decreases-levels
decreases-levels l = unreached l.ways.items + length l.level.items
