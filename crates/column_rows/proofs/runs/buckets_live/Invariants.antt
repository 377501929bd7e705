use Rattle.std.proofs.Common.{ℕ, ◌<◌}
use Rattle.bucket_codec.specs.Buckets.{run_of}
use Rattle.column_rows.specs.Closed.{IsBucketLive}
use Rattle.column_rows.proofs.runs.buckets_live.Given as goal

abbrev pub invariant-loop-index : goal.invariant-loop-index
invariant-loop-index g l = (k : ℕ) → k < l.index → IsBucketLive (g.R.Rows.table l.rows) l.key l.value (run_of l.buckets) k
