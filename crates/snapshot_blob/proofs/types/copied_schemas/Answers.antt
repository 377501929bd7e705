use Rattle.std.proofs.Common.{arith}
use Rattle.snapshot_blob.proofs.Loading.{mapped_more, mapped_all}
use Rattle.snapshot_blob.proofs.types.copied_schemas.Goals as goal

pub loop-part-init : goal.loop-part-init
loop-part-init c = c.new-schemas.ensures

pub loop-part-preserved : goal.loop-part-preserved
loop-part-preserved c =
    mapped_more (λ part. part.schema) c.args.parts.now c.loop-part.part-index c.part-item.result c.loop-part.schemas c.push.new.self c.in_ok-copy.field-0 (omega arith) c.part-item.is
    c.loop-part.invariant c.in_ok-copy.ensures c.in_ok-push.ensures.ok

pub returns : goal.returns
returns c = mapped_all (λ part. part.schema) c.args.parts.now c.loop-part.part-index c.loop-part.schemas (omega arith) c.loop-part.invariant
