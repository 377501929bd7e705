use Rattle.std.proofs.Common.{◌≡◌, ◌<◌, ℕ}
use Rattle.bucket_codec.specs.Run.{bucket_at}
use Rattle.bucket_codec.specs.Buckets.{run_of}
use Rattle.column_rows.proofs.same_items.are_buckets_same.Given as goal

-- the first buckets are the same
abbrev pub invariant-loop-index : goal.invariant-loop-index
invariant-loop-index l = (k : ℕ) → k < l.index → bucket_at (run_of l.buckets) k ≡ bucket_at (run_of l.others) k
