use Rattle.hol_plan.proofs.Levels.{Leveling}
use Rattle.hol_plan.proofs.ways.next_level.Given as goal

abbrev pub invariant-loop-place : goal.invariant-loop-place
invariant-loop-place l = Leveling l.steps l.level l.place-index l.distance l.initial.ways.items l.ways.items l.next.items
