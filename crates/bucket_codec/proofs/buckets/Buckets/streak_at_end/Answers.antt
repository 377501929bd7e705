use Rattle.std.proofs.Common.{arith, ◌∙◌, sym}
use Rattle.bucket_codec.proofs.RunBuckets.{length-run_in}
use Rattle.bucket_codec.proofs.Streaks.{streak_at, full_not_open}
use Rattle.bucket_codec.proofs.buckets.Buckets.streak_at_end.Goals as goal

pub returns-in_default : goal.returns-in_default
returns-in_default c =
    let long = length-run_in c.args.self.words.now c.args.self.key_width c.args.self.value_width c.args.self.start c.args.self.len in
    streak_at _ c.args.self.len c.loop-back.back long (omega arith) c.loop-back.invariant (sym c.in_default.is ∙ c.wide_bucket.ensures)

pub returns : goal.returns
returns c =
    let long = length-run_in c.args.self.words.now c.args.self.key_width c.args.self.value_width c.args.self.start c.args.self.len in
    full_not_open _ c.args.self.len c.loop-back.back long (omega arith) c.loop-back.invariant
