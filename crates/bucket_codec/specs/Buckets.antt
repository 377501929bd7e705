-- Runs of buckets where they stand packed, and when each key in one is found where it stands.
use Rattle.std.specs.Prelude.{◌≡◌, ◌≢◌, ℕ, ◌+◌, ◌-◌, ◌%◌, ◌^◌, ◌<◌, List, length, map, min, All, Option, Some, None, Result, Ok, Err}
use Rattle.std.specs.Int.{IsPowerOfTwo}
use Rattle.std.specs.List.{range_with_len, sum_by}
use Rattle.schema_model.specs.declared.schema.Shape.{Shape}
use Rattle.schema_model.specs.declared.reason.Reason.{Reason}
use Rattle.row_model.specs.declared.packed.PlaceFault.{PlaceFault}
use Rattle.bucket_codec.specs.Hash.{hash_of}
use Rattle.bucket_codec.specs.Run.{Bucket, bucket_at, taken_of, place_from, run_in, IsPairInRange, SpellsRun}
use Rattle.bucket_codec.specs.Taken.{TellsPairs}
use Rattle.bucket_codec.specs.declared.tested.Tested.{Tested}
use Rattle.bucket_codec.specs.declared.buckets.Buckets.{Buckets}

-- The run of the buckets.
abbrev pub run_of : Buckets → List Bucket
run_of buckets = run_in buckets.words.now buckets.key_width buckets.value_width buckets.start buckets.len

-- A bucket is taken by another key.
abbrev pub IsOther : ℕ → Bucket → Type 0
IsOther key None = ⊥
IsOther key (Some pair) = pair.0 ≢ key

-- The look-up of a key comes to this place: each bucket from the key's home up to there is taken by another key.
pub record ComesTo (run : List Bucket) (key place : ℕ) : Type 0 where
  pub steps : ℕ
  pub within : steps < length run
  pub ends : place_from (length run) key steps ≡ place
  pub others : (step : ℕ) → step < steps → IsOther key (bucket_at run (place_from (length run) key step))

-- The key at a place, if there is one, is found there.
abbrev pub IsFoundAt : List Bucket → ℕ → Type 0
IsFoundAt run place = (key value : ℕ) → bucket_at run place ≡ Some (key, value) → ComesTo run key place

-- Each key is found where it stands.
abbrev pub FindsEach : List Bucket → Type 0
FindsEach run = (place : ℕ) → place < length run → IsFoundAt run place

-- How many steps the key at a place stands behind its home, round the run; 0 where the bucket is empty.
abbrev pub steps_of : ℕ → ℕ → Bucket → ℕ
steps_of size place None = 0
steps_of size place (Some pair) = (place + size - hash_of pair.0 % size) % size

-- The steps of the keys of the first so many buckets, all together.
abbrev pub steps_within : List Bucket → ℕ → ℕ
steps_within run count = sum_by (λ steps. steps) (map (λ place. steps_of (length run) place (bucket_at run place)) (range_with_len 0 count))

-- The keys of the run stand more than so many steps behind their homes, all together.
abbrev pub IsFar : List Bucket → ℕ → Type 0
IsFar run most = most < min (steps_within run (length run)) (2 ^ 64 - 1)

-- The run spells a set or map of so many pairs.
abbrev pub SpellsSome : List Bucket → ℕ → Type 0
SpellsSome run count = (pairs : List (ℕ × ℕ)) × SpellsRun run pairs × (count ≡ length pairs)

-- The run may spell a set or map of so many pairs, whatever buckets are taken.
pub record HasRoom (run : List Bucket) (count : ℕ) : Type 0 where
  pub ranges : All IsPairInRange (taken_of run)
  pub room : count < length run
  pub power : IsPowerOfTwo (length run)

-- The run may spell a set or map of so many pairs, wherever its keys stand.
pub record IsCounted (run : List Bucket) (count : ℕ) : Type 0 where
  pub ranges : All IsPairInRange (taken_of run)
  pub taken : count ≡ length (taken_of run)
  pub room : count < length run
  pub power : IsPowerOfTwo (length run)

-- What each answer of a test of a run tells that is to spell so many pairs.
abbrev pub TellsRunTest : List Bucket → ℕ → ℕ → Tested → Type 0
TellsRunTest run count most Tested.Spells = SpellsSome run count
TellsRunTest run count most (Tested.Fails reason) = TellsPairs run count (Err (PlaceFault.Bad reason))
TellsRunTest run count most Tested.Far = IsFar run most

-- What the bucket at a place is taken by are ordinals.
abbrev pub FitsAt : List Bucket → ℕ → Type 0
FitsAt run place = (key value : ℕ) → bucket_at run place ≡ Some (key, value) → (key < 2 ^ 32) × (value < 2 ^ 32)

-- The shapes whose rows are runs of buckets.
abbrev pub IsBucketShape : Shape → Type 0
IsBucketShape (Shape.Set element) = Unit {0}
IsBucketShape (Shape.Map key value) = Unit {0}
IsBucketShape _ = ⊥

-- Why pairs were not read, and none where they were.
abbrev pub IsFaultOf : Result (List (ℕ × ℕ)) PlaceFault → Option Reason → Type 0
IsFaultOf (Ok pairs) found = found ≡ None
IsFaultOf (Err (PlaceFault.Bad reason)) found = found ≡ Some reason
IsFaultOf (Err PlaceFault.Memory) found = ⊥
