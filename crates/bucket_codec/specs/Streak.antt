-- Runs of buckets: what is known of a run as its buckets are walked, to see that each key is reached from its home.
use Rattle.std.specs.Prelude.{◌≡◌, ℕ, ◌+◌, ◌-◌, ◌%◌, ◌<◌, List, length, None, Some, IsSome}
use Rattle.bucket_codec.specs.Run.{Bucket, bucket_at, IsReached}

-- The bucket at a place that is numbered on past the end, round the run.
abbrev pub bucket_round : List Bucket → ℕ → Bucket
bucket_round run place = bucket_at run (place % length run)

-- So many buckets before the place, round the run, are taken, and the one before these is empty.
pub record IsStreak (run : List Bucket) (place streak : ℕ) : Type 0 where
  pub below : streak < length run
  pub full : (back : ℕ) → back < streak → IsSome (bucket_round run (length run + place - 1 - back))
  pub empty : bucket_round run (length run + place - 1 - streak) ≡ None

-- A key that stands at the place is reached from its home.
abbrev pub IsReachedAt : List Bucket → ℕ → Type 0
IsReachedAt run place = (key value : ℕ) → bucket_at run place ≡ Some (key, value) → IsReached run key place

-- A bucket is empty, and each key is reached from its home.
pub record IsOpen (run : List Bucket) : Type 0 where
  pub room : (place : ℕ) × (place < length run) × (bucket_at run place ≡ None)
  pub reached : (place : ℕ) → place < length run → IsReachedAt run place
