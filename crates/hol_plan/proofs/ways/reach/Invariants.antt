use Rattle.hol_plan.proofs.Levels.{Passing}
use Rattle.hol_plan.proofs.ways.reach.Given as goal

abbrev pub invariant-loop-step : goal.invariant-loop-step
invariant-loop-step l = Passing l.group l.step-index l.distance l.initial.ways.items l.ways.items l.initial.next.items l.next.items
