use Rattle.std.proofs.Common.{◌≡◌}
use Rattle.std.specs.FinMap.{keys}
use Rattle.row_model.specs.BothStates.{rows_in}
use Rattle.row_packing.proofs.ByType.{one_more}
use Rattle.blob_writing.proofs.plan.live_sets.Goals as goal

pub loop-type_index-preserved : goal.loop-type_index-preserved
loop-type_index-preserved g c =
    one_more (λ t set. set ≡ keys (rows_in (g.R.Rows.table c.args.rows.now) t)) c.loop-type_index.type_index c.loop-type_index.sets _ _ c.loop-type_index.invariant c.in_ok-live_set.ensures c.in_ok-push.ensures.ok
