use Rattle.std.proofs.Common.{ℕ, ◌<◌}
use Rattle.bucket_codec.specs.Buckets.{run_of}
use Rattle.bucket_codec.specs.Streak.{IsStreak, IsReachedAt}
use Rattle.bucket_codec.proofs.buckets.Buckets.is_open.Given as goal

abbrev pub invariant-loop-place : goal.invariant-loop-place
invariant-loop-place l =
    let run = run_of l.self in
    IsStreak run l.place l.streak × ((place : ℕ) → place < l.place → IsReachedAt run place)
