use Rattle.std.proofs.Common.{arith, ◌∙◌, sym, ◌<◌, ◌^◌, length}
use Rattle.bucket_codec.specs.Buckets.{run_of}
use Rattle.bucket_codec.proofs.RunBuckets.{length-run_in}
use Rattle.bucket_codec.proofs.LookUps.{key_fits}
use Rattle.bucket_codec.proofs.Streaks.{passed_empty, passed_taken, stopped_at}
use Rattle.bucket_codec.proofs.buckets.Buckets.next_streak.Goals as goal

pub returns-in_default : goal.returns-in_default
returns-in_default c =
    let long = length-run_in c.args.self.words.now c.args.self.key_width c.args.self.value_width c.args.self.start c.args.self.len in
    passed_empty _ c.args.self.len c.args.place long c.requires.inside (sym c.in_default.is ∙ c.wide_bucket.ensures)

pub overflow_cast-key : goal.overflow_cast-key
overflow_cast-key c =
    let long = length-run_in c.args.self.words.now c.args.self.key_width c.args.self.value_width c.args.self.start c.args.self.len in
    let below : c.args.place < length (run_of c.args.self) = omega (arith, long, c.requires.inside) in
    let small : c.in-Some.key < 2 ^ 32 = key_fits _ c.args.place c.in-Some.key _ c.requires.ranges below c.in-Some.ensures in
    omega (arith, small)

pub returns-then-steps_behind-streak : goal.returns-then-steps_behind-streak
returns-then-steps_behind-streak c =
    let long = length-run_in c.args.self.words.now c.args.self.key_width c.args.self.value_width c.args.self.start c.args.self.len in
    stopped_at _ c.args.self.len c.args.place c.args.streak c.steps_behind.result c.in-Some.key _ long c.requires.inside c.in-Some.ensures c.requires.streak c.steps_behind.ensures.is
    c.steps_behind.ensures.below c.if-steps_behind-streak.true

pub overflow_add-result : goal.overflow_add-result
overflow_add-result c =
    let long = length-run_in c.args.self.words.now c.args.self.key_width c.args.self.value_width c.args.self.start c.args.self.len in
    omega (arith, long, c.requires.streak.below, c.args.self.held.ends)

pub returns : goal.returns
returns c =
    let long = length-run_in c.args.self.words.now c.args.self.key_width c.args.self.value_width c.args.self.start c.args.self.len in
    passed_taken _ c.args.self.len c.args.place c.args.streak c.steps_behind.result c.in-Some.key _ long c.requires.inside c.in-Some.ensures c.requires.streak c.steps_behind.ensures.is
    c.steps_behind.ensures.below c.if-steps_behind-streak.false
