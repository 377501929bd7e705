-- What is chosen for the types that were passed.
use Rattle.row_packing.specs.Chosen.{shape_at, IsChosen}
use Rattle.blob_writing.specs.Plan.{AreByType}
use Rattle.blob_writing.proofs.plan.choices.Given as goal

abbrev pub invariant-loop-type_index : goal.invariant-loop-type_index
invariant-loop-type_index g l =
    AreByType l.type_index (λ type_index. IsChosen (shape_at (g.B.Rows.schemas l.new) type_index) (g.A.Rows.table l.old) (g.B.Rows.table l.new) type_index) l.chosen
