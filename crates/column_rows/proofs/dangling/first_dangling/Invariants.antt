use Rattle.std.proofs.Common.{ℕ, ◌<◌}
use Rattle.closed_rows.specs.Dangling.{IsClosedAt}
use Rattle.column_rows.proofs.dangling.first_dangling.Given as goal

abbrev pub invariant-loop-type_index : goal.invariant-loop-type_index
invariant-loop-type_index g l = (t o : ℕ) → t < l.type_index → IsClosedAt (g.R.Rows.schemas l.rows) (g.R.Rows.table l.rows) t o
