use Rattle.std.proofs.Common.{◌≤◌}
use Rattle.record_tokens.proofs.tree.place_from.Given as goal

abbrev pub invariant-loop-place : goal.invariant-loop-place
invariant-loop-place l = l.from ≤ l.place
