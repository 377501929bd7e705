use Rattle.std.proofs.Common.{ℕ, ◌<◌}
use Rattle.std.specs.Prelude.{slice_index}
use Rattle.row_model.specs.Table.{IsLive}
use Rattle.list_codec.specs.Elements.{elements_of}
use Rattle.column_rows.proofs.runs.elements_live.Given as goal

abbrev pub invariant-loop-index : goal.invariant-loop-index
invariant-loop-index g l = (k : ℕ) → k < l.index → IsLive (g.R.Rows.table l.rows) l.target (slice_index (elements_of l.elements) k)
