use Rattle.std.proofs.Common.{length, ◌-◌, ◌≤◌, ◌*◌}
use Rattle.ordinal_set.proofs.Beside.{beside}
use Rattle.ordinal_set.proofs.Populations.{AreClear}
use Rattle.ordinal_set.proofs.two_sets.first_beside.Given as goal

abbrev pub invariant-loop-place : goal.invariant-loop-place
invariant-loop-place l = record { from : l.from ≤ l.place; clear : AreClear (beside l.words l.others) (l.from * 64) (l.place * 64) }

abbrev pub decreases-loop-place : goal.decreases-loop-place
decreases-loop-place l = length l.words - l.place
