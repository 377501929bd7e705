use Rattle.std.proofs.Common.{length}
use Rattle.row_model.specs.BothStates.{rows_of_both}
use Rattle.row_widths.specs.Walk.{rows_left}
use Rattle.row_widths.proofs.RecordSpreads.{IsGathered}
use Rattle.row_widths.proofs.records.gather.Given as goal

abbrev pub invariant-loop-spreads : goal.invariant-loop-spreads
invariant-loop-spreads g l =
    IsGathered l.fields (rows_of_both (g.A.Rows.table l.old) (g.B.Rows.table l.new) l.type_index) (rows_left (g.A.Rows.table l.old) (g.B.Rows.table l.new) l.type_index l.walk) l.spreads.items

abbrev pub decreases-loop-spreads : goal.decreases-loop-spreads
decreases-loop-spreads g l = length (rows_left (g.A.Rows.table l.old) (g.B.Rows.table l.new) l.type_index l.walk)
