use Rattle.type_state.proofs.TightPlaces.{AreTight}
use Rattle.type_state.proofs.tight.are_runs_tight.Given as goal

abbrev pub invariant-loop-place : goal.invariant-loop-place
invariant-loop-place l = AreTight l.shape l.section l.total l.place
