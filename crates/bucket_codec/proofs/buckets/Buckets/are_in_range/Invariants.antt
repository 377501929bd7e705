use Rattle.std.proofs.Common.{ℕ, ◌<◌}
use Rattle.bucket_codec.specs.Buckets.{run_of, FitsAt}
use Rattle.bucket_codec.proofs.buckets.Buckets.are_in_range.Given as goal

abbrev pub invariant-loop-index : goal.invariant-loop-index
invariant-loop-index l = (place : ℕ) → place < l.index → FitsAt (run_of l.self) place
