use Rattle.hol_plan.specs.Ways.{way_at}
use Rattle.hol_plan.proofs.Following.{Follows, long_of}
use Rattle.hol_plan.proofs.start.follow.Given as goal

abbrev pub invariant-loop-step : goal.invariant-loop-step
invariant-loop-step l = Follows (way_at l.ways) l.start l.place l.initial.names l.names

abbrev pub decreases-loop-step : goal.decreases-loop-step
decreases-loop-step l = long_of (way_at l.ways l.place)
