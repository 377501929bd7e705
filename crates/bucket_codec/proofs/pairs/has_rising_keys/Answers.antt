use Rattle.std.proofs.Common.{arith}
use Rattle.bucket_codec.proofs.Sorted.{rises_of, not_rising}
use Rattle.bucket_codec.proofs.pairs.has_rising_keys.Goals as goal

pub returns-then-pairs-place : goal.returns-then-pairs-place
returns-then-pairs-place c = not_rising c.args.pairs.now c.loop-place.place _ (omega arith) (omega arith) c.if-pairs-place.true

pub returns : goal.returns
returns c = rises_of c.args.pairs.now c.loop-place.place (omega arith) c.loop-place.invariant
