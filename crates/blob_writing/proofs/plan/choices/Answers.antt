use Rattle.row_packing.specs.Chosen.{shape_at, IsChosen}
use Rattle.row_packing.proofs.ByType.{one_more}
use Rattle.blob_writing.proofs.plan.choices.Goals as goal

pub loop-type_index-preserved : goal.loop-type_index-preserved
loop-type_index-preserved g c =
    one_more (λ t. IsChosen (shape_at (g.B.Rows.schemas c.args.new.now) t) (g.A.Rows.table c.args.old.now) (g.B.Rows.table c.args.new.now) t) c.loop-type_index.type_index c.loop-type_index.chosen _ _
    c.loop-type_index.invariant c.in_ok-choose.ensures c.in_ok-push.ensures.ok
