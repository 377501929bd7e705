use Rattle.std.specs.List.{AllZip, range_with_len}
use Rattle.row_packing.specs.Chosen.{shape_at}
use Rattle.row_packing.specs.Measured.{IsMeasured}
use Rattle.hol_incremental.proofs.measuring.measured_all.Given as goal

abbrev pub invariant-loop-type_index : goal.invariant-loop-type_index
invariant-loop-type_index g l =
    AllZip (λ t one. IsMeasured (shape_at (g.B.Rows.schemas l.new) t) (g.A.Rows.table l.old) (g.B.Rows.table l.new) t one) (range_with_len 0 l.type_index) l.all
