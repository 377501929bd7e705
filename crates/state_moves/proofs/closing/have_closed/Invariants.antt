use Rattle.std.proofs.Common.{ℕ, ◌<◌}
use Rattle.closed_rows.specs.Dangling.{IsClosedAt}
use Rattle.state_moves.proofs.closing.have_closed.Given as goal

abbrev pub invariant-loop-type_index : goal.invariant-loop-type_index
invariant-loop-type_index l = (t o : ℕ) → t < l.type_index → IsClosedAt l.rows.schemas l.rows.table t o
