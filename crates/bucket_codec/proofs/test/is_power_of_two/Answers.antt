use Rattle.std.proofs.Common.{arith}
use Rattle.bucket_codec.proofs.BucketCounts.{power_by_next, no_power}
use Rattle.bucket_codec.proofs.test.is_power_of_two.Goals as goal

pub returns-then-number : goal.returns-then-number
returns-then-number c = no_power c.args.number (omega arith) (omega arith)

pub returns : goal.returns
returns c =
    power_by_next c.args.number _ c.next_power_of_two.ensures.power.0 c.next_power_of_two.ensures.power.1 c.next_power_of_two.ensures.lower_bound c.next_power_of_two.ensures.upper_bound
