use Rattle.std.proofs.Common.{ℕ, ◌<◌}
use Rattle.closed_rows.specs.Dangling.{IsClosedAt}
use Rattle.closed_rows.proofs.dangling.dangling_in.Given as goal

abbrev pub invariant-loop-ordinal : goal.invariant-loop-ordinal
invariant-loop-ordinal g l = (o : ℕ) → o < l.ordinal → IsClosedAt (g.R.Rows.schemas l.rows) (g.R.Rows.table l.rows) l.type_index o
