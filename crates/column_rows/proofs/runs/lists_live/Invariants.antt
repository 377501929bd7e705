use Rattle.std.proofs.Common.{ℕ, ◌<◌}
use Rattle.column_rows.specs.Closed.{ListNamesLive}
use Rattle.column_rows.specs.Looked.{ordinal_of}
use Rattle.column_rows.proofs.runs.lists_live.Given as goal

abbrev pub invariant-loop-index : goal.invariant-loop-index
invariant-loop-index g l = (k : ℕ) → k < l.index → ListNamesLive (g.R.Rows.table l.rows) l.type_index l.target (ordinal_of l.looked k)
