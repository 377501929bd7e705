use Rattle.kept_sums.specs.Steps.{AreAdded}
use Rattle.kept_sums.proofs.sums.add_parts.Given as goal

abbrev pub invariant-loop-part : goal.invariant-loop-part
invariant-loop-part l = AreAdded l.shape l.row l.part l.initial.parts.items l.parts.items
