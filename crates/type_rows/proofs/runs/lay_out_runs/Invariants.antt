use Rattle.std.proofs.Common.{take, []}
use Rattle.std.specs.FinMap.{values}
use Rattle.row_model.specs.Table.{RowMap}
use Rattle.type_rows.specs.Loads.{SectionIs}
use Rattle.type_rows.specs.Sums.{AreLaid}
use Rattle.type_rows.proofs.runs.lay_out_runs.Given as goal

abbrev pub invariant-loop-ordinal : goal.invariant-loop-ordinal
invariant-loop-ordinal l =
    (rows : RowMap) → SectionIs l.shape l.section rows → AreLaid l.shape l.section.widths (take l.ordinal-index (values rows)) l.items [] 0
