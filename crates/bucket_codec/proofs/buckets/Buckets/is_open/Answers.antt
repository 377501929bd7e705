use Rattle.std.proofs.Common.{arith}
use Rattle.bucket_codec.proofs.RunBuckets.{length-run_in}
use Rattle.bucket_codec.proofs.Streaks.{room_of, reached_more}
use Rattle.bucket_codec.proofs.buckets.Buckets.is_open.Goals as goal

pub returns-in_default-next_streak : goal.returns-in_default-next_streak
returns-in_default-next_streak c = λ opens.
    let long = length-run_in c.args.self.words.now c.args.self.key_width c.args.self.value_width c.args.self.start c.args.self.len in
    c.in_default-next_streak.ensures (opens.reached c.loop-place.place (omega arith))

pub loop-place-preserved : goal.loop-place-preserved
loop-place-preserved c = (
  c.in-Some-next_streak.ensures.1,
  reached_more _ c.loop-place.place c.loop-place.invariant.1 c.in-Some-next_streak.ensures.0,
)

pub returns : goal.returns
returns c =
    let long = length-run_in c.args.self.words.now c.args.self.key_width c.args.self.value_width c.args.self.start c.args.self.len in
    record {
      room = room_of _ c.loop-place.place c.loop-place.streak c.loop-place.invariant.0;
      reached = λ place below. c.loop-place.invariant.1 place (omega arith);
    }
