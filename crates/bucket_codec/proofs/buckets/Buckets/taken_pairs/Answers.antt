use Rattle.std.proofs.Common.{Some, sym, ◌∙◌, arith}
use Rattle.bucket_codec.proofs.TakenBuckets.{pairs_more, pairs_still}
use Rattle.bucket_codec.proofs.buckets.Buckets.taken_pairs.Goals.{in-Some+in_ok-push, in_default}
use Rattle.bucket_codec.proofs.buckets.Buckets.taken_pairs.Goals as goal

pub loop-index-preserved : goal.loop-index-preserved
loop-index-preserved c = elim c.match-bucket.branch [
  | in-Some+in_ok-push w ↦
      w.pairs-is ∙ w.in_ok-push.ensures.ok
      ∙ pairs_more c.args.self.words.now c.args.self.key_width c.args.self.value_width c.args.self.start c.args.self.len c.loop-index.index c.loop-index.pairs (Some w.in-Some.pair) (omega arith)
      c.loop-index.invariant (w.in-Some.ensures c.requires)
  | in_default w ↦
      w.pairs-is
      ∙ pairs_still c.args.self.words.now c.args.self.key_width c.args.self.value_width c.args.self.start c.args.self.len c.loop-index.index c.loop-index.pairs (omega arith) c.loop-index.invariant
      (sym w.in_default.is ∙ c.bucket.ensures c.requires)
]
