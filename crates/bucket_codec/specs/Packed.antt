-- SET and MAP rows of a blob, written: how many buckets they take, and which words spell them.
use Rattle.std.specs.Prelude.{◌≡◌, ℕ, ◌+◌, ◌-◌, ◌*◌, ◌^◌, ◌<◌, ◌≤◌, List, [], length, map, All, Option, None, Some, slice_get}
use Rattle.std.specs.List.{sum_by}
use Rattle.bit_array.specs.Element.{number_of, words_of}
use Rattle.row_model.specs.Row.{FitsShape, Rises}
use Rattle.schema_model.specs.declared.schema.Shape.{Shape}
use Rattle.row_model.specs.declared.row.Row.{Row}
use Rattle.bucket_codec.specs.BucketCount.{bucket_count}
use Rattle.bucket_codec.specs.Run.{Bucket, keys_of, IsZeroIfEmpty, SpellsRun}
use Rattle.bucket_codec.specs.BucketPlace.{pointer_width, size_width, key_width, value_width, place_width, bucket_width, start_at, end_at, size_at, run_at, IsWidthCount, SpellsBucketRow, SpellsPairs}
use Rattle.bucket_codec.specs.Inserted.{inserted}

-- An element of a set as a pair.
abbrev pub set_pair : ℕ → ℕ × ℕ
set_pair element = (element, 0)

-- The pairs of a row, by rising key: of a set its elements, each with the value 0.
abbrev pub pairs_of : Row → List (ℕ × ℕ)
pairs_of (Row.Set ordinals) = map set_pair ordinals
pairs_of (Row.Map pairs) = pairs
pairs_of _ = []

-- The row is one of a set or a map.
abbrev pub IsBuckets : Row → Type 0
IsBuckets (Row.Set ordinals) = Unit {0}
IsBuckets (Row.Map pairs) = Unit {0}
IsBuckets _ = ⊥

-- How many buckets the row of a place takes, if it has one.
abbrev pub buckets_of : Option Row → ℕ
buckets_of None = 0
buckets_of (Some row) = bucket_count (length (pairs_of row))

-- How many buckets rows take.
abbrev pub bucket_total : List (Option Row) → ℕ
bucket_total rows = sum_by buckets_of rows

-- The widths hold a row: a key below all ones, which is an empty bucket, and a value and the size below their powers.
pub record HoldsRow (widths : List ℕ) (row : Row) : Type 0 where
  pub keys : All (λ pair. pair.0 < 2 ^ key_width widths - 1) (pairs_of row)
  pub values : All (λ pair. pair.1 < 2 ^ value_width widths) (pairs_of row)
  pub size : length (pairs_of row) < 2 ^ size_width widths
  pub few : length (pairs_of row) < 2 ^ 32

-- The row of a place, if it has one, fits its type, and the widths hold it.
abbrev pub IsPackableRow : Shape → List ℕ → Option Row → Type 0
IsPackableRow shape widths None = Unit {0}
IsPackableRow shape widths (Some row) = FitsShape shape row × HoldsRow widths row

-- What can be packed: rows of sets or maps that the widths hold, pointers too, with so few bits that each has a number below 2^63.
pub record IsPackable (shape : Shape) (widths : List ℕ) (rows : List (Option Row)) : Type 0 where
  pub counted : IsWidthCount shape (length widths)
  pub narrow : All (λ width. width ≤ 64) widths
  pub each : All (IsPackableRow shape widths) rows
  pub pointers : bucket_total rows < 2 ^ pointer_width widths
  pub places : length rows < 2 ^ 32
  pub buckets : bucket_total rows * bucket_width widths < 2 ^ 63

-- A place without a row repeats the pointer before it, and has the size 0. A row takes its number of buckets, and the place spells it.
abbrev pub PacksPlace : Shape → List ℕ → ℕ → List ℕ → List ℕ → ℕ → Option Row → Type 0
PacksPlace shape widths total first second place None = (end_at widths first place ≡ start_at widths first place) × (size_at widths first place ≡ 0)
PacksPlace shape widths total first second place (Some row) =
    (end_at widths first place ≡ start_at widths first place + bucket_count (length (pairs_of row))) × SpellsBucketRow shape widths total first second place row

-- Each place of the words has its row.
abbrev pub PacksRows : Shape → List ℕ → List (Option Row) → List ℕ → List ℕ → Type 0
PacksRows shape widths rows first second =
    (place total : ℕ) (row : Option Row) → slice_get rows place ≡ Some row → bucket_total rows ≤ total → PacksPlace shape widths total first second place row

-- The run of a place with a row is that into which its pairs are put by rising key.
abbrev pub LaysRun : List ℕ → List ℕ → List ℕ → ℕ → Option Row → Type 0
LaysRun widths first second place None = Unit {0}
LaysRun widths first second place (Some row) = run_at widths first second place ≡ inserted (bucket_count (length (pairs_of row))) (pairs_of row)

-- The run of each place is.
abbrev pub LaysRuns : List ℕ → List (Option Row) → List ℕ → List ℕ → Type 0
LaysRuns widths rows first second = (place : ℕ) (row : Option Row) → slice_get rows place ≡ Some row → LaysRun widths first second place row

-- Each empty bucket of the rows has the value 0.
abbrev pub HasZeros : List ℕ → List (Option Row) → List ℕ → Type 0
HasZeros widths rows second = (index : ℕ) → index < bucket_total rows → IsZeroIfEmpty second (key_width widths) (value_width widths) index

-- As many words as so many bits take, with no bit behind these.
pub record HoldsBits (words : List ℕ) (bits : ℕ) : Type 0 where
  pub long : length words ≡ words_of bits
  pub below : number_of words < 2 ^ bits

-- The words are those of these rows, to the last bit: each place has its row, whose pairs are put in by rising key, an empty bucket has the
-- value 0, and there are as many words as the places and the buckets take.
pub record IsPacked (shape : Shape) (widths : List ℕ) (rows : List (Option Row)) (first second : List ℕ) : Type 0 where
  pub packs : PacksRows shape widths rows first second
  pub laid : LaysRuns widths rows first second
  pub zeros : HasZeros widths rows second
  pub first_bits : HoldsBits first (length rows * place_width widths)
  pub second_bits : HoldsBits second (bucket_total rows * bucket_width widths)

-- The same by the pairs: what is known of a place once it is written, of which the run ends within so many buckets.
abbrev pub PacksPairs : List ℕ → ℕ → List ℕ → List ℕ → ℕ → Option Row → Type 0
PacksPairs widths total first second place None = (end_at widths first place ≡ start_at widths first place) × (size_at widths first place ≡ 0)
PacksPairs widths total first second place (Some row) =
    (end_at widths first place ≡ start_at widths first place + bucket_count (length (pairs_of row))) × SpellsPairs widths total first second place (pairs_of row)

-- The run is that of a row of so many elements or pairs: it spells these, in as many buckets as they take.
pub record IsRunOf (run : List Bucket) (size : ℕ) (row : Row) : Type 0 where
  pub spells : SpellsRun run (pairs_of row)
  pub sized : size ≡ length (pairs_of row)
  pub tight : length run ≡ bucket_count size

-- The row of a place, if it has one, has fewer than 2^32 elements or pairs.
abbrev pub IsFew : Option Row → Type 0
IsFew None = Unit {0}
IsFew (Some row) = length (pairs_of row) < 2 ^ 32

-- It is a set or a map, by rising key, that the widths hold.
abbrev pub IsWritable : List ℕ → Option Row → Type 0
IsWritable widths None = Unit {0}
IsWritable widths (Some row) = IsBuckets row × Rises (keys_of (pairs_of row)) × HoldsRow widths row
