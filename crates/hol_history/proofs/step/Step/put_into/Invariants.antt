use Rattle.std.proofs.Common.{true}
use Rattle.hol_history.specs.Spots.{Sets}
use Rattle.hol_history.proofs.StepFronts.{front_names}
use Rattle.hol_history.proofs.step.Step.put_into.Given as goal

-- What the step touched of the first types is in.
abbrev pub invariant-loop-type_index : goal.invariant-loop-type_index
invariant-loop-type_index l = Sets true (front_names l.self.past l.number l.type_index) l.fn.spots l.spots
