use Rattle.bucket_codec.specs.Buckets.{run_of}
use Rattle.bucket_codec.proofs.LookUps.{IsPassed}
use Rattle.bucket_codec.proofs.buckets.Buckets.find.Given as goal

abbrev pub invariant-loop-steps : goal.invariant-loop-steps
invariant-loop-steps l = IsPassed (run_of l.self) l.key l.steps
