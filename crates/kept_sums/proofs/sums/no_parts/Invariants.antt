use Rattle.kept_sums.specs.Steps.{AreNone}
use Rattle.kept_sums.proofs.sums.no_parts.Given as goal

abbrev pub invariant-loop-part : goal.invariant-loop-part
invariant-loop-part l = AreNone l._part l.parts.items
