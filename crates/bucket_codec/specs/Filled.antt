-- Runs of buckets: what is known of words and of a run as they are written.
use Rattle.std.specs.Prelude.{◌≡◌, ℕ, ◌+◌, ◌*◌, ◌<◌, ◌≤◌, List, length, All, None}
use Rattle.std.specs.List.Sorted.{IsPermutation}
use Rattle.bit_array.specs.Element.{element_of}
use Rattle.bucket_codec.specs.Run.{Bucket, bucket_at, run_in, taken_of, IsReached, IsPairInRange, IsZeroIfEmpty}
use Rattle.bucket_codec.specs.Streak.{IsReachedAt}
use Rattle.bucket_codec.specs.Inserted.{inserted}

-- As many words as before, of which no bit before the limit has changed.
pub record KeepsFront (old new : List ℕ) (limit : ℕ) : Type 0 where
  pub long : length new ≡ length old
  pub front : (bit width : ℕ) → bit + width ≤ limit → element_of new bit width ≡ element_of old bit width

-- No bit from the limit on has changed.
abbrev pub KeepsBack : List ℕ → List ℕ → ℕ → Type 0
KeepsBack old new limit = (i v : ℕ) → limit ≤ i → element_of new i v ≡ element_of old i v

-- The taken buckets hold these pairs, and each key is reached from its home.
pub record IsFilled (run : List Bucket) (pairs : List (ℕ × ℕ)) : Type 0 where
  pub same : IsPermutation (taken_of run) pairs
  pub reached : (place : ℕ) → place < length run → IsReachedAt run place

-- The place is the first empty one from the home of the key on.
pub record IsFree (run : List Bucket) (key place : ℕ) : Type 0 where
  pub inside : place < length run
  pub empty : bucket_at run place ≡ None
  pub reached : IsReached run key place

-- The run of so many buckets from a start on is filled with these pairs, one after another: they are in range, an empty bucket has the value 0, and no bit outside has changed.
pub record FillsRun (old new : List ℕ) (key_width value_width start size : ℕ) (pairs : List (ℕ × ℕ)) : Type 0 where
  pub filled : IsFilled (run_in new key_width value_width start size) pairs
  pub laid : run_in new key_width value_width start size ≡ inserted size pairs
  pub ranges : All IsPairInRange pairs
  pub zeros : (index : ℕ) → start ≤ index → index < start + size → IsZeroIfEmpty new key_width value_width index
  pub front : KeepsFront old new (start * (key_width + value_width))
  pub back : KeepsBack old new ((start + size) * (key_width + value_width))

-- The run of so many buckets from a start on is this one, and no bit outside has changed.
pub record IsCopied (old new : List ℕ) (key_width value_width start size : ℕ) (run : List Bucket) : Type 0 where
  pub is : run_in new key_width value_width start size ≡ run
  pub front : KeepsFront old new (start * (key_width + value_width))
  pub back : KeepsBack old new ((start + size) * (key_width + value_width))
