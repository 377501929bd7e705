use Rattle.blob_writing.proofs.WritingSnapshots.{types_more}
use Rattle.blob_writing.proofs.snapshot.all_types.Goals as goal

pub loop-type_index-preserved : goal.loop-type_index-preserved
loop-type_index-preserved c = types_more c.loop-type_index.type_index c.loop-type_index.types _ c.loop-type_index.invariant c.in_ok-push.ensures.ok
