use Rattle.std.proofs.Common.{arith}
use Rattle.bucket_codec.specs.Buckets.{run_of}
use Rattle.bucket_codec.proofs.RunBuckets.{length-run_in}
use Rattle.bucket_codec.proofs.TakenBuckets.{bad_inside}
use Rattle.bucket_codec.proofs.buckets.Buckets.is_in_range.Goals as goal

pub returns-then-key-gt4294967295 : goal.returns-then-key-gt4294967295
returns-then-key-gt4294967295 c =
    let long = length-run_in c.args.self.words.now c.args.self.key_width c.args.self.value_width c.args.self.start c.args.self.len in
    bad_inside (run_of c.args.self) c.args.index c.in-Some.key c.in-Some.value (omega (arith, long, c.requires)) c.in-Some.ensures (λ fits. omega (arith, fits.0, c.if-key-gt4294967295.true))

pub returns-then-value-gt4294967295 : goal.returns-then-value-gt4294967295
returns-then-value-gt4294967295 c =
    let long = length-run_in c.args.self.words.now c.args.self.key_width c.args.self.value_width c.args.self.start c.args.self.len in
    bad_inside (run_of c.args.self) c.args.index c.in-Some.key c.in-Some.value (omega (arith, long, c.requires)) c.in-Some.ensures (λ fits. omega (arith, fits.1, c.if-value-gt4294967295.true))
