use Rattle.std.proofs.Common.{refl, arith}
use Rattle.snapshot_blob.proofs.Loading.{mapped_more, mapped_all}
use Rattle.snapshot_blob.proofs.types.schema_offsets.Goals as goal

pub loop-part-preserved : goal.loop-part-preserved
loop-part-preserved c =
    mapped_more (λ part. part.at) c.args.parts.now c.loop-part.part-index c.part-item.result c.loop-part.offsets c.push.new.self c.part-item.result.at (omega arith) c.part-item.is
    c.loop-part.invariant refl c.in_ok-push.ensures.ok

pub returns : goal.returns
returns c = mapped_all (λ part. part.at) c.args.parts.now c.loop-part.part-index c.loop-part.offsets (omega arith) c.loop-part.invariant
