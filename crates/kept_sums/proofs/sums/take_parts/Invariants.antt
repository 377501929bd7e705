use Rattle.kept_sums.specs.Steps.{AreTaken}
use Rattle.kept_sums.proofs.sums.take_parts.Given as goal

abbrev pub invariant-loop-part : goal.invariant-loop-part
invariant-loop-part l = AreTaken l.shape l.row l.part l.initial.parts.items l.parts.items
