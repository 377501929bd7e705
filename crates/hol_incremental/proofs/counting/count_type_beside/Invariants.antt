use Rattle.std.proofs.Common.{◌≡◌, ◌<◌, ◌-◌, ◌^◌, ℕ, length}
use Rattle.hol_incremental.specs.Counted.{CountsTo}
use Rattle.hol_incremental.proofs.counting.count_type_beside.Given as goal

abbrev pub invariant-loop-ordinal : goal.invariant-loop-ordinal
invariant-loop-ordinal g l = record {
  small : l.from < 2 ^ 32;
  types : length l.tally.counts ≡ length l.initial.tally.counts;
  sums : length l.tally.sums.items ≡ length l.initial.tally.sums.items;
  read : (start : ℕ) → CountsTo (g.A.Rows.schemas l.rows) (g.B.Rows.table l.before) (g.A.Rows.table l.rows) l.type_index 0 start l.initial.tally.counts l.initial.tally.sums.items l.initial.steps
      → CountsTo (g.A.Rows.schemas l.rows) (g.B.Rows.table l.before) (g.A.Rows.table l.rows) l.type_index l.from start l.tally.counts l.tally.sums.items l.steps;
}

abbrev pub decreases-loop-ordinal : goal.decreases-loop-ordinal
decreases-loop-ordinal g l = 2 ^ 32 - l.from
