use Rattle.std.proofs.Common.{◌≡◌, ◌*◌}
use Rattle.ordinal_set.proofs.Counts.{count_set}
use Rattle.ordinal_set.proofs.scan.count_set.Given as goal

abbrev pub invariant-loop-word : goal.invariant-loop-word
invariant-loop-word l = l.count ≡ count_set l.words 0 (64 * l.word-index)
