use Rattle.std.proofs.Common.{arith, ◌<◌, ◌^◌}
use Rattle.bucket_codec.proofs.LookUps.{found_fits}
use Rattle.bucket_codec.proofs.buckets.Buckets.at.Goals as goal

pub returns-then-value-gt4294967295 : goal.returns-then-value-gt4294967295
returns-then-value-gt4294967295 c = λ pairs spelled v h.
    let fits : c.in_ok-value.value < 2 ^ 32 = found_fits _ pairs c.args.key c.in_ok-value.value spelled (c.in_ok-value.ensures pairs spelled) in
    omega arith
