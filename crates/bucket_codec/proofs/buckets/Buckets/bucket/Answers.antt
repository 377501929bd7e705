use Rattle.std.proofs.Common.{◌<◌, length, arith}
use Rattle.bucket_codec.specs.Buckets.{run_of}
use Rattle.bucket_codec.proofs.RunBuckets.{length-run_in}
use Rattle.bucket_codec.proofs.TakenBuckets.{pair_fits}
use Rattle.bucket_codec.proofs.buckets.Buckets.bucket.Goals as goal

pub returns-then-key-gt4294967295 : goal.returns-then-key-gt4294967295
returns-then-key-gt4294967295 c = λ ranges.
    (let long = length-run_in c.args.self.words.now c.args.self.key_width c.args.self.value_width c.args.self.start c.args.self.len in
    let below : c.args.index < length (run_of c.args.self) = omega (arith, long, c.requires) in
    let fits = pair_fits (run_of c.args.self) c.args.index c.in_ok-key.key c.in_ok-key.value ranges below c.in_ok-key.ensures in
    absurd (omega (arith, fits.0, c.if-key-gt4294967295.true)))

pub returns-then-value-gt4294967295 : goal.returns-then-value-gt4294967295
returns-then-value-gt4294967295 c = λ ranges.
    (let long = length-run_in c.args.self.words.now c.args.self.key_width c.args.self.value_width c.args.self.start c.args.self.len in
    let below : c.args.index < length (run_of c.args.self) = omega (arith, long, c.requires) in
    let fits = pair_fits (run_of c.args.self) c.args.index c.in_ok-key.key c.in_ok-key.value ranges below c.in_ok-key.ensures in
    absurd (omega (arith, fits.1, c.if-value-gt4294967295.true)))
