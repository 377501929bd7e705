use Rattle.std.proofs.Common.{length}
use Rattle.row_model.specs.BothStates.{rows_of_both}
use Rattle.row_widths.specs.Walk.{rows_left}
use Rattle.row_widths.proofs.BucketSpreads.{IsGathered}
use Rattle.row_widths.proofs.buckets.gather.Given as goal

abbrev pub invariant-loop-lent : goal.invariant-loop-lent
invariant-loop-lent g l =
    IsGathered (rows_of_both (g.A.Rows.table l.old) (g.B.Rows.table l.new) l.type_index) (rows_left (g.A.Rows.table l.old) (g.B.Rows.table l.new) l.type_index l.walk)
    l.spread.buckets l.spread.size l.spread.key l.spread.value

abbrev pub decreases-loop-lent : goal.decreases-loop-lent
decreases-loop-lent g l = length (rows_left (g.A.Rows.table l.old) (g.B.Rows.table l.new) l.type_index l.walk)
