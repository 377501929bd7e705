-- What the writer of a blob chooses for a SET or MAP type: the widths and the total, over the rows of two states.
use Rattle.std.specs.Prelude.{ℕ, ◌+◌, List, [], ◌∷◌, ◌++◌, length, map, flat_map, fold, max, min}
use Rattle.std.specs.List.{sum_by}
use Rattle.bit_array.specs.Digits.{digit_count}
use Rattle.schema_model.specs.declared.schema.Shape.{Shape}
use Rattle.row_model.specs.declared.row.Row.{Row}
use Rattle.schema_model.specs.declared.limit.Limit.{Limit}
use Rattle.schema_model.specs.Limit.{number_of_limit}
use Rattle.bucket_codec.specs.BucketCount.{bucket_count}
use Rattle.bucket_codec.specs.Run.{keys_of}
use Rattle.bucket_codec.specs.Packed.{pairs_of}

-- The sizes of rows: how many elements or pairs each has.
abbrev pub sizes_of : List Row → List ℕ
sizes_of rows = map (λ row. length (pairs_of row)) rows

-- How many buckets rows take.
abbrev pub buckets_of_rows : List Row → ℕ
buckets_of_rows rows = sum_by bucket_count (sizes_of rows)

-- The elements or keys of rows.
abbrev pub keys_of_rows : List Row → List ℕ
keys_of_rows rows = flat_map (λ row. keys_of (pairs_of row)) rows

-- The values of pairs.
abbrev pub values_of : List (ℕ × ℕ) → List ℕ
values_of pairs = map (λ pair. pair.1) pairs

-- The values of rows: an element of a set has the value 0.
abbrev pub values_of_rows : List Row → List ℕ
values_of_rows rows = flat_map (λ row. values_of (pairs_of row)) rows

-- The least width of a bit or more that holds each number up to this one.
abbrev pub width_for : ℕ → ℕ
width_for greatest = max 1 (digit_count greatest)

-- The greatest of some numbers, 0 where there are none, is a fold of `max` from 0. The pointers hold the number of all buckets, and the sizes the
-- greatest size. The keys hold one more than the greatest, since all ones is an empty bucket.
abbrev pub set_widths : List Row → List ℕ
set_widths rows =
    width_for (buckets_of_rows rows) ∷ width_for (fold max 0 (sizes_of rows)) ∷ digit_count (fold max 0 (keys_of_rows rows) + 1) ∷ []

-- The widths of a type for these rows: those of a map hold the greatest value besides.
abbrev pub widths_for : Shape → List Row → List ℕ
widths_for (Shape.Map key value) rows = set_widths rows ++ width_for (fold max 0 (values_of_rows rows)) ∷ []
widths_for _ rows = set_widths rows

-- The total of these rows: the number of their buckets, or one more than the limit where they are more.
abbrev pub total_for : List Row → ℕ
total_for rows = min (buckets_of_rows rows) (number_of_limit Limit.Items + 1)
