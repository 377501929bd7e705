-- SET and MAP rows of a blob: which row the pointer, the size and the buckets of a place spell, and why they spell none. A set is a map without values.
use Rattle.std.specs.Prelude.{◌≡◌, ℕ, zero, suc, ◌+◌, ◌-◌, ◌*◌, ◌^◌, ◌<◌, ◌≤◌, List, length, All, slice_index, Result, Ok, Err}
use Rattle.bit_array.specs.Element.{element_of}
use Rattle.schema_model.specs.declared.schema.Shape.{Shape}
use Rattle.row_model.specs.declared.row.Row.{Row}
use Rattle.schema_model.specs.declared.reason.Reason.{Reason}
use Rattle.row_model.specs.declared.packed.PlaceFault.{PlaceFault}
use Rattle.bucket_codec.specs.Run.{Bucket, taken_of, keys_of, IsPairInRange, SpellsRun, run_in}
use Rattle.bucket_codec.specs.Taken.{HasBadValue}

-- The widths of a type in bits: of a pointer, a size, an element or key, and a map's value. A set has three, so that its buckets have values of no bits.
abbrev pub pointer_width : List ℕ → ℕ
pointer_width widths = slice_index widths 0

abbrev pub size_width : List ℕ → ℕ
size_width widths = slice_index widths 1

abbrev pub key_width : List ℕ → ℕ
key_width widths = slice_index widths 2

abbrev pub value_width : List ℕ → ℕ
value_width widths = slice_index widths 3

-- The width of a place, and that of a bucket.
abbrev pub place_width : List ℕ → ℕ
place_width widths = pointer_width widths + size_width widths

abbrev pub bucket_width : List ℕ → ℕ
bucket_width widths = key_width widths + value_width widths

-- The end of the run of a place, counted in buckets.
abbrev pub end_at : List ℕ → List ℕ → ℕ → ℕ
end_at widths first place = element_of first (place * place_width widths) (pointer_width widths)

-- The start of the run: the end of that of the place before, and 0 for place 0.
abbrev pub start_at : List ℕ → List ℕ → ℕ → ℕ
start_at widths first zero = 0
start_at widths first (suc earlier) = end_at widths first earlier

-- The number of elements or pairs.
abbrev pub size_at : List ℕ → List ℕ → ℕ → ℕ
size_at widths first place = element_of first (place * place_width widths + pointer_width widths) (size_width widths)

-- The run of the place.
abbrev pub run_at : List ℕ → List ℕ → List ℕ → ℕ → List Bucket
run_at widths first second place =
    run_in second (key_width widths) (value_width widths) (start_at widths first place) (end_at widths first place - start_at widths first place)

-- The pointers bound a run of the buckets that there are.
pub record IsSpan (widths : List ℕ) (total : ℕ) (first second : List ℕ) (place : ℕ) : Type 0 where
  pub rises : start_at widths first place ≤ end_at widths first place
  pub counted : end_at widths first place ≤ total
  pub held : end_at widths first place * bucket_width widths ≤ 64 * length second

-- The place spells the set or map of these pairs, by rising key.
pub record SpellsPairs (widths : List ℕ) (total : ℕ) (first second : List ℕ) (place : ℕ) (pairs : List (ℕ × ℕ)) : Type 0 where
  pub span : IsSpan widths total first second place
  pub run : SpellsRun (run_at widths first second place) pairs
  pub sized : size_at widths first place ≡ length pairs

-- The row of these pairs: the elements of a set, or the pairs of a map.
abbrev pub IsRowOf : Shape → Row → List (ℕ × ℕ) → Type 0
IsRowOf (Shape.Set element) (Row.Set ordinals) pairs = ordinals ≡ keys_of pairs
IsRowOf (Shape.Map key value) (Row.Map entries) pairs = entries ≡ pairs
IsRowOf _ _ pairs = ⊥

-- The place of a type spells this row.
abbrev pub SpellsBucketRow : Shape → List ℕ → ℕ → List ℕ → List ℕ → ℕ → Row → Type 0
SpellsBucketRow shape widths total first second place row =
    (pairs : List (ℕ × ℕ)) × IsRowOf shape row pairs × SpellsPairs widths total first second place pairs

-- The place spells no row, for this reason: the first that there is of the pointers, the ordinals and the buckets.
abbrev pub FailsBucketRow : List ℕ → ℕ → List ℕ → List ℕ → ℕ → Reason → Type 0
FailsBucketRow widths total first second place Reason.BadPointers = IsSpan widths total first second place → ⊥
FailsBucketRow widths total first second place Reason.BadValue = IsSpan widths total first second place × HasBadValue (run_at widths first second place)
FailsBucketRow widths total first second place Reason.BadBuckets =
    IsSpan widths total first second place × All IsPairInRange (taken_of (run_at widths first second place))
    × ((pairs : List (ℕ × ℕ)) → SpellsPairs widths total first second place pairs → ⊥)
FailsBucketRow widths total first second place _ = ⊥

-- How many widths a type of the shape has; the other shapes are not rows of buckets.
abbrev pub IsWidthCount : Shape → ℕ → Type 0
IsWidthCount (Shape.Set element) count = count ≡ 3
IsWidthCount (Shape.Map key value) count = count ≡ 4
IsWidthCount _ count = ⊥

-- The parts of a type have words for the pointers and sizes up to those of the place.
pub record HoldsPointers (widths first : List ℕ) (place : ℕ) : Type 0 where
  pub narrow : All (λ width. width ≤ 64) widths
  pub within : (place + 1) * place_width widths ≤ 64 * length first
  pub below : place < 2 ^ 32

-- They have the widths of the type too, and buckets each bit of which has a number below 2^64: what a section of a blob has that can be read.
pub record HoldsPlace (shape : Shape) (widths first second : List ℕ) (place : ℕ) : Type 0 where
  pub counted : IsWidthCount shape (length widths)
  pub pointers : HoldsPointers widths first place
  pub few : 64 * length second < 2 ^ 64

-- Want of memory may come in place of any answer.
abbrev pub IsFreePlace : PlaceFault → Type 0
IsFreePlace (PlaceFault.Bad reason) = ⊥
IsFreePlace PlaceFault.Memory = Unit {0}

-- What each answer of the reader tells.
abbrev pub TellsBucketRow : Shape → List ℕ → ℕ → List ℕ → List ℕ → ℕ → Result Row PlaceFault → Type 0
TellsBucketRow shape widths total first second place (Ok row) = SpellsBucketRow shape widths total first second place row
TellsBucketRow shape widths total first second place (Err (PlaceFault.Bad reason)) = FailsBucketRow widths total first second place reason
TellsBucketRow shape widths total first second place (Err PlaceFault.Memory) = Unit {0}

-- What each answer tells of the reader of a place's pairs.
abbrev pub TellsPlace : List ℕ → ℕ → List ℕ → List ℕ → ℕ → Result (List (ℕ × ℕ)) PlaceFault → Type 0
TellsPlace widths total first second place (Ok pairs) = SpellsPairs widths total first second place pairs
TellsPlace widths total first second place (Err (PlaceFault.Bad reason)) = FailsBucketRow widths total first second place reason
TellsPlace widths total first second place (Err PlaceFault.Memory) = Unit {0}
