-- Runs of buckets as they are written: which bucket each element or key takes.
use Rattle.std.specs.Prelude.{ℕ, List, length, map, set, replicate, fold, find, Option, Some, None, is_none, option_map, unwrap_or}
use Rattle.std.specs.List.{range_with_len}
use Rattle.bucket_codec.specs.Run.{Bucket, bucket_at, place_from}

-- The places of a run of so many buckets, from the home of a key on, each once round.
abbrev pub way_of : ℕ → ℕ → List ℕ
way_of size key = map (place_from size key) (range_with_len 0 size)

-- The first empty bucket from the home of a key on, if there is one.
abbrev pub first_empty : List Bucket → ℕ → Option ℕ
first_empty run key = find (λ place. is_none (bucket_at run place)) (way_of (length run) key)

-- A run with one more pair, in the first empty bucket from the home of its key on; a full run stays as it is.
abbrev pub with_pair : List Bucket → ℕ × ℕ → List Bucket
with_pair run pair = unwrap_or (option_map (λ place. set run place (Some pair)) (first_empty run pair.0)) run

-- The run of so many buckets, all empty at first, into which these pairs are put one after another.
abbrev pub inserted : ℕ → List (ℕ × ℕ) → List Bucket
inserted size pairs = fold with_pair (replicate size None) pairs
