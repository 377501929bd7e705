use Rattle.std.proofs.Common.{arith, sym, subst}
use Rattle.std.specs.Int.{IsPowerOfTwo}
use Rattle.bucket_codec.specs.Buckets.{run_of}
use Rattle.bucket_codec.proofs.RunBuckets.{length-run_in}
use Rattle.bucket_codec.proofs.Spelled.{no_room, no_power}
use Rattle.bucket_codec.proofs.buckets.Buckets.room_fault.Goals as goal

pub returns-then-not-is_power_of_two : goal.returns-then-not-is_power_of_two
returns-then-not-is_power_of_two c =
    let long = length-run_in c.args.self.words.now c.args.self.key_width c.args.self.value_width c.args.self.start c.args.self.len in
    (c.if-not-are_in_range.ensures, no_power (run_of c.args.self) c.args.self.len c.args.count long c.if-not-is_power_of_two.ensures)

pub returns-then-count-self : goal.returns-then-count-self
returns-then-count-self c =
    let long = length-run_in c.args.self.words.now c.args.self.key_width c.args.self.value_width c.args.self.start c.args.self.len in
    (c.if-not-are_in_range.ensures, no_room (run_of c.args.self) c.args.self.len c.args.count long c.if-count-self.true)

pub returns : goal.returns
returns c =
    let long = length-run_in c.args.self.words.now c.args.self.key_width c.args.self.value_width c.args.self.start c.args.self.len in
    record {
      ranges = c.if-not-are_in_range.ensures;
      room = omega (arith, long, c.if-count-self.false);
      power = subst (λ n. IsPowerOfTwo n) (sym long) c.if-not-is_power_of_two.ensures;
    }
