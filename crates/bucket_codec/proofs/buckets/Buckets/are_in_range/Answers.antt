use Rattle.std.proofs.Common.{arith}
use borrow.Author.Count.{below_more}
use Rattle.bucket_codec.specs.Buckets.{run_of, FitsAt}
use Rattle.bucket_codec.proofs.RunBuckets.{length-run_in}
use Rattle.bucket_codec.proofs.TakenBuckets.{fits_narrow, ranges_of}
use Rattle.bucket_codec.proofs.buckets.Buckets.are_in_range.Goals as goal

pub returns-then-self-le32-2 : goal.returns-then-self-le32-2
returns-then-self-le32-2 c =
    let long = length-run_in c.args.self.words.now c.args.self.key_width c.args.self.value_width c.args.self.start c.args.self.len in
    ranges_of (run_of c.args.self) (λ place below.
    fits_narrow c.args.self.words.now c.args.self.key_width c.args.self.value_width c.args.self.start c.args.self.len place (omega arith) (omega arith) (omega arith))

pub loop-index-preserved : goal.loop-index-preserved
loop-index-preserved c = below_more (FitsAt (run_of c.args.self)) c.loop-index.index c.loop-index.invariant c.if-not-is_in_range.ensures

pub returns : goal.returns
returns c =
    let long = length-run_in c.args.self.words.now c.args.self.key_width c.args.self.value_width c.args.self.start c.args.self.len in
    ranges_of (run_of c.args.self) (λ place below. c.loop-index.invariant place (omega arith))
