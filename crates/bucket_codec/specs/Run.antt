-- Runs of buckets: which set or map a run spells, and how a run stands in words.
use Rattle.std.specs.Prelude.{◌≡◌, ℕ, ◌+◌, ◌-◌, ◌*◌, ◌%◌, ◌^◌, ◌<◌, ◌≤◌, ◌==◌, if◌then◌else◌, List, length, map, All, Option, Some, None, IsSome}
use Rattle.std.specs.Int.{IsPowerOfTwo}
use Rattle.std.specs.List.{slice_index_or, filter_map, range_with_len, Contains}
use Rattle.std.specs.List.Sorted.{IsPermutation}
use Rattle.bit_array.specs.Element.{element_of}
use Rattle.row_model.specs.Row.{Rises}
use Rattle.bucket_codec.specs.Hash.{hash_of}

-- A bucket: empty, or taken by a key and its value. An element of a set is a key, with the value 0.
abbrev pub Bucket : Type 0
Bucket = Option (ℕ × ℕ)

-- The bucket at a place of a run.
abbrev pub bucket_at : List Bucket → ℕ → Bucket
bucket_at run place = slice_index_or run place None

-- The keys and values of the taken buckets, in the order of the buckets.
abbrev pub taken_of : List Bucket → List (ℕ × ℕ)
taken_of run = filter_map (λ bucket. bucket) run

-- The keys of pairs.
abbrev pub keys_of : List (ℕ × ℕ) → List ℕ
keys_of pairs = map (λ pair. pair.0) pairs

-- The place that is so many steps behind the home of a key, in a run of so many buckets: behind the last bucket comes the first.
abbrev pub place_from : ℕ → ℕ → ℕ → ℕ
place_from size key steps = (hash_of key % size + steps) % size

-- Each bucket from the home of the key up to the place is taken.
pub record IsReached (run : List Bucket) (key place : ℕ) : Type 0 where
  pub steps : ℕ
  pub within : steps < length run
  pub ends : place_from (length run) key steps ≡ place
  pub full : (step : ℕ) → step < steps → IsSome (bucket_at run (place_from (length run) key step))

-- A key and a value are ordinals.
abbrev pub IsPairInRange : ℕ × ℕ → Type 0
IsPairInRange pair = (pair.0 < 2 ^ 32) × (pair.1 < 2 ^ 32)

-- The run spells the set or the map of these pairs, which stand by rising key. Each pair has one bucket, and stands where it is found from its home on.
pub record SpellsRun (run : List Bucket) (pairs : List (ℕ × ℕ)) : Type 0 where
  pub power : IsPowerOfTwo (length run)
  pub room : (place : ℕ) × (place < length run) × (bucket_at run place ≡ None)
  pub reached : (place : ℕ) → place < length run → (key value : ℕ) → bucket_at run place ≡ Some (key, value) → IsReached run key place
  pub rises : Rises (keys_of pairs)
  pub same : IsPermutation (taken_of run) pairs
  pub ranges : All IsPairInRange pairs

-- The bucket that stands at an index in words: a key and then a value, of these widths in bits. It is empty where the key is all ones.
abbrev pub bucket_in : List ℕ → ℕ → ℕ → ℕ → Bucket
bucket_in words key_width value_width index =
    let at = index * (key_width + value_width) in
    let key = element_of words at key_width in
    (if key == 2 ^ key_width - 1 then None else Some (key, element_of words (at + key_width) value_width))

-- The value that stands behind the key of the bucket at an index, also where the bucket is empty.
abbrev pub value_in : List ℕ → ℕ → ℕ → ℕ → ℕ
value_in words key_width value_width index = element_of words (index * (key_width + value_width) + key_width) value_width

-- The bucket at an index has the value 0 if it is empty, as the writer has it.
abbrev pub IsZeroIfEmpty : List ℕ → ℕ → ℕ → ℕ → Type 0
IsZeroIfEmpty words key_width value_width index = bucket_in words key_width value_width index ≡ None → value_in words key_width value_width index ≡ 0

-- The run of so many buckets from an index on.
abbrev pub run_in : List ℕ → ℕ → ℕ → ℕ → ℕ → List Bucket
run_in words key_width value_width start size = map (bucket_in words key_width value_width) (range_with_len start size)

-- The run of so many buckets from an index on stands within the words, each bit of which has a number below 2^64.
pub record HoldsRun (words : List ℕ) (key_width value_width start size : ℕ) : Type 0 where
  pub narrow_key : key_width ≤ 64
  pub narrow_value : value_width ≤ 64
  pub inside : (start + size) * (key_width + value_width) ≤ 64 * length words
  pub few : 64 * length words < 2 ^ 64
  pub ends : start + size < 2 ^ 64

-- The same of the run from a start up to an end.
pub record IsRunWithin (words : List ℕ) (key_width value_width start end : ℕ) : Type 0 where
  pub narrow_key : key_width ≤ 64
  pub narrow_value : value_width ≤ 64
  pub rises : start ≤ end
  pub inside : end * (key_width + value_width) ≤ 64 * length words
  pub few : 64 * length words < 2 ^ 64

-- What a look-up finds in pairs: the value beside the key, and none where no pair has the key.
abbrev pub FindsIn : List (ℕ × ℕ) → ℕ → Option ℕ → Type 0
FindsIn pairs key None = (value : ℕ) → Contains pairs (key, value) → ⊥
FindsIn pairs key (Some value) = Contains pairs (key, value)
