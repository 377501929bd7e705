use Rattle.std.proofs.Common.{◌≡◌, ℕ, length}
use Rattle.write_engine.specs.Cycle.{no_rows}
use Rattle.hol_incremental.specs.Counted.{CountsTo}
use Rattle.hol_incremental.proofs.counting.count_type.Given as goal

abbrev pub invariant-loop-ordinal : goal.invariant-loop-ordinal
invariant-loop-ordinal g l = record {
  types : length l.tally.counts ≡ length l.initial.tally.counts;
  sums : length l.tally.sums.items ≡ length l.initial.tally.sums.items;
  read : (start : ℕ) → CountsTo (g.R.Rows.schemas l.rows) (no_rows (length (g.R.Rows.schemas l.rows))) (g.R.Rows.table l.rows) l.type_index 0 start l.initial.tally.counts l.initial.tally.sums.items l.initial.steps
      → CountsTo (g.R.Rows.schemas l.rows) (no_rows (length (g.R.Rows.schemas l.rows))) (g.R.Rows.table l.rows) l.type_index l.ordinal start l.tally.counts l.tally.sums.items l.steps;
}
