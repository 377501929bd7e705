use Rattle.std.proofs.Common.{◌≡◌, ◌++◌, drop}
use Rattle.row_model.specs.BothStates.{rows_of_both}
use Rattle.object_codec.specs.Widths.{widths_for}
use Rattle.row_widths.proofs.RecordSpreads.{widths_from}
use Rattle.row_widths.proofs.records.widths.Given as goal

abbrev pub invariant-loop-index : goal.invariant-loop-index
invariant-loop-index g l =
    l.widths ++ widths_from l.index (drop l.index l.fields) (rows_of_both (g.A.Rows.table l.old) (g.B.Rows.table l.new) l.type_index)
    ≡ widths_for l.fields (rows_of_both (g.A.Rows.table l.old) (g.B.Rows.table l.new) l.type_index)
