use Rattle.std.proofs.Common.{◌*◌}
use Rattle.ordinal_set.proofs.LeastFree.{AreTaken}
use Rattle.ordinal_set.proofs.two_sets.first_clear.Given as goal

abbrev pub invariant-loop-place : goal.invariant-loop-place
invariant-loop-place l = AreTaken l.words l.others (l.from * 64) (l.place * 64)
