use Rattle.ordinal_set.proofs.GapRuns.{WrittenSoFar}
use Rattle.ordinal_set.proofs.gaps.push_gaps.Given as goal

abbrev pub invariant-loop-number : goal.invariant-loop-number
invariant-loop-number l = WrittenSoFar l.initial.out.items l.out.items l.list l.before l.number-index
