use Rattle.std.proofs.Common.{ℕ, ◌<◌}
use Rattle.column_rows.specs.Closed.{NamesLiveThere}
use Rattle.column_rows.specs.Looked.{ordinal_of}
use Rattle.column_rows.proofs.fields.field_live.Given as goal

abbrev pub invariant-loop-index : goal.invariant-loop-index
invariant-loop-index g l = (k : ℕ) → k < l.index → NamesLiveThere (g.R.Rows.table l.rows) l.type_index l.field l.target (ordinal_of l.looked k)
