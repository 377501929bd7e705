use Rattle.std.proofs.Common.{◌≡◌, take}
use Rattle.hol_history.proofs.step.Step.of.Given as goal

-- The parts so far are those of the first types.
abbrev pub invariant-loop-type_index : goal.invariant-loop-type_index
invariant-loop-type_index g l = l.parts ≡ take l.type_index (g.L.LeftRows.past l.before)
