use Rattle.std.proofs.Common.{◌≡◌, length}
use Rattle.std.specs.FinMap.{keys}
use Rattle.row_model.specs.BothStates.{rows_in}
use Rattle.blob_writing.specs.Changes.{gone}
use Rattle.blob_writing.proofs.OneDelta.{gone_as}
use Rattle.row_packing.proofs.ByType.{of_type, one_more}
use Rattle.blob_writing.proofs.plan.alone.Goals as goal

pub loop-type_index-preserved : goal.loop-type_index-preserved
loop-type_index-preserved c from to here there =
    let at = c.loop-type_index.type_index in
    let count = length c.args.here.now in
    let was = of_type (λ t set. set ≡ keys (rows_in from t)) count at c.args.here.now c.get.result.now here c.get.ensures in
    let is = of_type (λ t set. set ≡ keys (rows_in to t)) count at c.args.there.now c.get-in-loop-type_index.result.now there c.get-in-loop-type_index.ensures in
    one_more (λ t list. list ≡ gone from to t) at c.loop-type_index.lists _ _ (c.loop-type_index.invariant from to here there) (gone_as from to at _ _ _ was is c.in_ok-without.ensures.members) c.in_ok-push.ensures.ok
