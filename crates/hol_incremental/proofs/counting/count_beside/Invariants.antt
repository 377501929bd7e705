use Rattle.hol_incremental.specs.Counted.{CountsTo}
use Rattle.hol_incremental.proofs.counting.count_beside.Given as goal

abbrev pub invariant-loop-type_index : goal.invariant-loop-type_index
invariant-loop-type_index g l = CountsTo (g.A.Rows.schemas l.rows) (g.B.Rows.table l.before) (g.A.Rows.table l.rows) l.type_index 0 l.initial.steps l.tally.counts l.tally.sums.items l.steps
