use Rattle.std.proofs.Common.{ℕ, ◌<◌, ◌-◌, IsSome}
use Rattle.bucket_codec.specs.Run.{bucket_at}
use Rattle.bucket_codec.specs.Buckets.{run_of}
use Rattle.bucket_codec.proofs.buckets.Buckets.streak_at_end.Given as goal

abbrev pub invariant-loop-back : goal.invariant-loop-back
invariant-loop-back l =
    (back : ℕ) → back < l.back → IsSome (bucket_at (run_of l.self) (l.self.len - 1 - back))
