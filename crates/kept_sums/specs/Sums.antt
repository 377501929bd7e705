-- What is kept of the rows of a type, off which a writer's choice for them is read.
use Rattle.std.specs.Prelude.{ℕ, zero, suc, ◌+◌, ◌≡◌, ◌<◌, ◌^◌, List, [], ◌∷◌, fold, get_or, if◌then◌else◌, length, max, nat_eq, refl, sum_by}
use Rattle.std.specs.Coded.{Coded, code_by, coded×, coded_ℕ, coded_list}
use Rattle.bit_array.specs.Digits.{digit_count}
use Rattle.schema_model.specs.declared.schema.Shape.{Shape}
use Rattle.row_model.specs.declared.row.Row.{Row}
use Rattle.object_codec.specs.Stored.{value_at, values_of_row}
use Rattle.object_codec.specs.Widths.{byte_count, most_bits}
use Rattle.list_codec.specs.Widths.{elements_of_row, greatest}
use Rattle.bucket_codec.specs.BucketCount.{bucket_count}
use Rattle.bucket_codec.specs.Packed.{pairs_of}
use Rattle.bucket_codec.specs.Run.{keys_of}
use Rattle.bucket_codec.specs.Widths.{values_of}

-- What is kept of one part of the rows: how many of them take 0 bits in it, how many take 1, and so on; and its variable bytes.
pub record PartSums : Type 0 where
  pub counts : List ℕ
  pub bytes : ℕ

-- What is kept of the rows: that of each part, the number of their elements or buckets, and their variable bytes.
pub record TypeSums : Type 0 where
  pub parts : List PartSums
  pub items : ℕ
  pub bytes : ℕ

abbrev pub part_code : Coded PartSums
part_code = code_by (List ℕ × ℕ) (coded× (coded_list coded_ℕ) coded_ℕ) (λ p. (p.counts, p.bytes)) (λ q. record { counts = q.0; bytes = q.1 }) (λ _. refl)

abbrev pub sums_code : Coded TypeSums
sums_code =
    code_by (List PartSums × (ℕ × ℕ)) (coded× (coded_list part_code) (coded× coded_ℕ coded_ℕ)) (λ s. (s.parts, (s.items, s.bytes))) (λ q. record { parts = q.0; items = q.1.0; bytes = q.1.1 }) (λ _. refl)

-- ---- the parts of a row

-- How many parts the rows of a type have: the fields of an OBJECT; the elements of a LIST; the size and the elements of a SET; the size, the keys and the
-- values of a MAP.
abbrev pub part_count : Shape → ℕ
part_count (Shape.Object key fields) = length fields
part_count (Shape.List element) = 1
part_count (Shape.Set element) = 2
part_count (Shape.Map key value) = 3

-- How many bits a part of a row takes: that of its numbers which takes the most. A key takes those of the number after it, since all ones is an empty bucket.
abbrev pub bucket_bits : ℕ → Row → ℕ
bucket_bits zero row = digit_count (length (pairs_of row))
bucket_bits (suc zero) row = digit_count (fold max 0 (keys_of (pairs_of row)) + 1)
bucket_bits _ row = digit_count (fold max 0 (values_of (pairs_of row)))

-- The shape is that of sets or maps.
abbrev pub HasBuckets : Shape → Type 0
HasBuckets (Shape.Set element) = Unit {0}
HasBuckets (Shape.Map key value) = Unit {0}
HasBuckets _ = ⊥

abbrev pub bits_at : Shape → ℕ → Row → ℕ
bits_at (Shape.Object key fields) part row = most_bits (value_at part (values_of_row row))
bits_at (Shape.List element) part row = digit_count (greatest (elements_of_row row))
bits_at (Shape.Set element) part row = bucket_bits part row
bits_at (Shape.Map key value) part row = bucket_bits part row

-- The variable bytes of a part of a row.
abbrev pub bytes_at : ℕ → Row → ℕ
bytes_at part row = byte_count (value_at part (values_of_row row))

-- The variable bytes of a row.
abbrev pub bytes_in : Row → ℕ
bytes_in row = byte_count (values_of_row row)

-- The elements or buckets of a row; an OBJECT has none.
abbrev pub items_in : Shape → Row → ℕ
items_in (Shape.Object key fields) row = 0
items_in (Shape.List element) row = length (elements_of_row row)
items_in (Shape.Set element) row = bucket_count (length (pairs_of row))
items_in (Shape.Map key value) row = bucket_count (length (pairs_of row))

-- ---- sums

-- The most that one of some rows has, 0 where there is none.
abbrev pub most_by : {X : Type 0} → (X → ℕ) → List X → ℕ
most_by measure [] = 0
most_by measure (one ∷ others) = max (measure one) (most_by measure others)

-- One where two numbers are the same.
abbrev pub one_if : ℕ → ℕ → ℕ
one_if a b = (if nat_eq a b then 1 else 0)

-- One where a part of a row takes so many bits.
abbrev pub takes : Shape → ℕ → ℕ → Row → ℕ
takes shape part bits row = one_if (bits_at shape part row) bits

-- What is kept of a part; of one that is not there, nothing.
abbrev pub part_of : List PartSums → ℕ → PartSums
part_of parts part = get_or parts part (record { counts = []; bytes = 0 })

-- These are the sums of the parts of some rows.
pub record ArePartsOf (shape : Shape) (rows : List Row) (parts : List PartSums) : Type 0 where
  pub long : length parts ≡ part_count shape
  pub counts : (part bits : ℕ) → part < part_count shape → get_or (part_of parts part).counts bits 0 ≡ sum_by (takes shape part bits) rows
  pub bytes : (part : ℕ) → part < part_count shape → (part_of parts part).bytes ≡ sum_by (bytes_at part) rows

-- These are the sums of some rows of a type.
pub record AreSumsOf (shape : Shape) (rows : List Row) (sums : TypeSums) : Type 0 where
  pub parts : ArePartsOf shape rows sums.parts
  pub items : sums.items ≡ sum_by (items_in shape) rows
  pub bytes : sums.bytes ≡ sum_by bytes_in rows

-- They are few enough for widths.
pub record AreFew (shape : Shape) (rows : List Row) : Type 0 where
  pub items : sum_by (items_in shape) rows < 2 ^ 62
  pub bytes : sum_by bytes_in rows < 2 ^ 62

-- The one rows are the others and this row, in any order: whatever is added up over them.
abbrev pub HaveRowMore : Row → List Row → List Row → Type 0
HaveRowMore row rows more = (f : Row → ℕ) → sum_by f more ≡ sum_by f rows + f row

-- Some rows with this one more have the sums if the rows without it have the others.
abbrev pub AddsRow : Shape → Row → TypeSums → TypeSums → Type 0
AddsRow shape row old new = (rows more : List Row) → HaveRowMore row rows more → AreSumsOf shape rows old → AreSumsOf shape more new

-- The rows without this one have the sums if the rows with it have the others.
abbrev pub TakesRow : Shape → Row → TypeSums → TypeSums → Type 0
TakesRow shape row old new = (rows more : List Row) → HaveRowMore row rows more → AreSumsOf shape more old → AreSumsOf shape rows new
