use Rattle.std.proofs.Common.{arith}
use Rattle.bucket_codec.proofs.TakenBuckets.{counted_more}
use Rattle.bucket_codec.proofs.buckets.Buckets.taken.Goals as goal

pub loop-index-preserved : goal.loop-index-preserved
loop-index-preserved c = (
  omega (arith, c.loop-index.invariant.0, c.taken_at-count.ensures.one),
  counted_more c.args.self.words.now c.args.self.key_width c.args.self.value_width c.args.self.start c.args.self.len c.loop-index.index c.loop-index.count c.taken_at-count.result (omega arith)
      c.loop-index.invariant.1 c.taken_at-count.ensures.is,
)
