use Rattle.std.proofs.Common.{ℕ, ◌<◌, ◌≤◌, get_or}
use Rattle.object_codec.proofs.spans.behind_end.Given as goal

abbrev pub invariant-loop-at : goal.invariant-loop-at
invariant-loop-at l = (k : ℕ) → l.place ≤ k → k < l.at → 128 ≤ get_or l.bytes k 0
