use Rattle.std.proofs.Common.{length}
use Rattle.write_engine.specs.Cycle.{no_rows}
use Rattle.hol_incremental.specs.Counted.{CountsTo}
use Rattle.hol_incremental.proofs.counting.count_all.Given as goal

abbrev pub invariant-loop-type_index : goal.invariant-loop-type_index
invariant-loop-type_index g l =
    CountsTo (g.R.Rows.schemas l.rows) (no_rows (length (g.R.Rows.schemas l.rows))) (g.R.Rows.table l.rows) l.type_index 0 l.initial.steps l.tally.counts l.tally.sums.items l.steps
