use Rattle.std.proofs.Common.{length, ◌-◌}
use Rattle.ordinal_set.proofs.GapRuns.{ReadSoFar}
use Rattle.ordinal_set.proofs.gaps.all_gaps.Given as goal

abbrev pub invariant-loop-place : goal.invariant-loop-place
invariant-loop-place l = ReadSoFar l.bytes l.place l.number l.list

abbrev pub decreases-loop-place : goal.decreases-loop-place
decreases-loop-place l = length l.bytes - l.place
