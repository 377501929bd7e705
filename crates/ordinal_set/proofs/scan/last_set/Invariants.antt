use Rattle.std.proofs.Common.{length, ◌*◌, ◌≤◌}
use Rattle.ordinal_set.proofs.Populations.{AreClear}
use Rattle.ordinal_set.proofs.scan.last_set.Given as goal

abbrev pub invariant-loop-place : goal.invariant-loop-place
invariant-loop-place l =
    record { within : l.place ≤ length l.words; clear : AreClear l.words (l.place * 64) (64 * length l.words) }

abbrev pub decreases-loop-place : goal.decreases-loop-place
decreases-loop-place l = l.place
