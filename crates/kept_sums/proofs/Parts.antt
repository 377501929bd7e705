-- What the parts of rows take together: the most digits, the bytes and the items.
use Rattle.std.proofs.Common.{◌≡◌, ◌∙◌, ◌+◌, ◌^◌, ◌≤◌, ℕ, List, [], ◌∷◌, max, min, length, sum_by, fold, flat_map, inl, inr, refl, ap, arith}
use Rattle.std.proofs.lemmas.Bool.{cases_lt}
use Rattle.std.proofs.lemmas.List.Concat.{length-flat_map}
use Rattle.std.proofs.lemmas.List.Sums.{sum_by-cons}
use Rattle.bit_array.specs.Digits.{digit_count}
use Rattle.bit_array.proofs.DigitCounts.{digit_count-holds, digit_count-le}
use Rattle.schema_model.specs.declared.schema.Shape.{Shape}
use Rattle.row_model.specs.declared.row.Row.{Row}
use Rattle.row_model.specs.BothStates.{rows_of_both}
use Rattle.row_model.specs.Table.{Table}
use Rattle.object_codec.specs.Stored.{column, value_at, values_bytes, values_of_row}
use Rattle.object_codec.specs.Widths.{byte_count, bytes_for, most_bits, records_of, rows_bytes}
use Rattle.object_codec.proofs.ByteCounts.{byte_count-append}
use Rattle.list_codec.specs.Widths.{elements_of_row, greatest}
use Rattle.bucket_codec.specs.Packed.{pairs_of}
use Rattle.bucket_codec.specs.Run.{keys_of}
use Rattle.bucket_codec.specs.Widths.{keys_of_rows, sizes_of, values_of, values_of_rows}
use Rattle.row_widths.proofs.BucketSpreads.{greatest-append as fold-append, greatest_from}
use Rattle.row_widths.proofs.ListSpreads.{greatest-append}
use Rattle.row_widths.proofs.RecordSpreads.{digits_some, most_bits-append}
use Rattle.row_packing.specs.Chosen.{KeepsCounts, chosen_total}
use Rattle.row_packing.proofs.BucketPlaces.{buckets_sum}
use Rattle.row_packing.proofs.Suiting.{rows_bytes_few}
use Rattle.row_packing.proofs.TypeLimits.{sum_zero}
use Rattle.kept_sums.specs.Sums.{AreFew, bytes_at, bytes_in, items_in, most_by}

-- ---- digits

digit_rises : (a b : ℕ) → a ≤ b → digit_count a ≤ digit_count b
digit_rises a b le = digit_count-le a (digit_count b) (let holds = digit_count-holds b in omega (arith, le, holds))

digit_max : (a b : ℕ) → digit_count (max a b) ≡ max (digit_count a) (digit_count b)
digit_max a b =
    elim (cases_lt a b) [
      | inl less ↦ let second : max a b ≡ b = omega (arith, less) in let rises = digit_rises a b (omega (arith, less)) in ap digit_count second ∙ omega (arith, rises)
      | inr more ↦ let first : max a b ≡ a = omega (arith, more) in let rises = digit_rises b a more in ap digit_count first ∙ omega (arith, rises)
    ]

digit_zero : digit_count 0 ≡ 0
digit_zero = let few = digit_count-le 0 0 (omega arith) in omega (arith, few)

digit_one : digit_count 1 ≡ 1
digit_one = let few = digit_count-le 1 1 (omega arith) in let some : 1 ≤ digit_count 1 = digits_some 0 in omega (arith, few, some)

-- ---- records

pub column_most : (index : ℕ) (rows : List Row) → most_bits (column index (records_of rows)) ≡ most_by (λ row. most_bits (value_at index (values_of_row row))) rows
column_most index [] = refl
column_most index (row ∷ rows) =
    most_bits-append (value_at index (values_of_row row)) (column index (records_of rows)) ∙ ap (λ n. max (most_bits (value_at index (values_of_row row))) n) (column_most index rows)

pub column_bytes : (index : ℕ) (rows : List Row) → byte_count (column index (records_of rows)) ≡ sum_by (bytes_at index) rows
column_bytes index [] = refl
column_bytes index (row ∷ rows) =
    let parts = byte_count-append (value_at index (values_of_row row)) (column index (records_of rows)) in
    let rest = column_bytes index rows in
    let step = sum_by-cons (bytes_at index) row rows in
    omega (arith, parts, rest, step)

pub bytes_together : (rows : List Row) → length (rows_bytes rows) ≡ sum_by bytes_in rows
bytes_together rows = length-flat_map (λ row. values_bytes (values_of_row row)) rows

-- ---- lists

pub list_most : (rows : List Row) → digit_count (greatest (flat_map elements_of_row rows)) ≡ most_by (λ row. digit_count (greatest (elements_of_row row))) rows
unfolding greatest
list_most [] = digit_zero
list_most (row ∷ rows) =
    ap digit_count (greatest-append (elements_of_row row) (flat_map elements_of_row rows)) ∙ digit_max (greatest (elements_of_row row)) (greatest (flat_map elements_of_row rows))
    ∙ ap (λ n. max (digit_count (greatest (elements_of_row row))) n) (list_most rows)

-- ---- sets and maps

pub sizes_most : (rows : List Row) → digit_count (fold max 0 (sizes_of rows)) ≡ most_by (λ row. digit_count (length (pairs_of row))) rows
sizes_most [] = digit_zero
sizes_most (row ∷ rows) =
    let size = length (pairs_of row) in
    let from = greatest_from (max 0 size) (sizes_of rows) in
    let most : fold max 0 (size ∷ sizes_of rows) ≡ max size (fold max 0 (sizes_of rows)) = from ∙ omega arith in
    ap digit_count most ∙ digit_max size (fold max 0 (sizes_of rows)) ∙ ap (λ n. max (digit_count size) n) (sizes_most rows)

pub keys_most : (rows : List Row) → digit_count (fold max 0 (keys_of_rows rows) + 1) ≡ max 1 (most_by (λ row. digit_count (fold max 0 (keys_of (pairs_of row)) + 1)) rows)
keys_most [] = digit_one
keys_most (row ∷ rows) =
    let here = fold max 0 (keys_of (pairs_of row)) in
    let there = fold max 0 (keys_of_rows rows) in
    let most = fold-append (keys_of (pairs_of row)) (keys_of_rows rows) in
    let next : fold max 0 (keys_of_rows (row ∷ rows)) + 1 ≡ max (here + 1) (there + 1) = omega (arith, most) in
    let rest = keys_most rows in
    ap digit_count next ∙ digit_max (here + 1) (there + 1) ∙ omega (arith, rest)

pub values_most : (rows : List Row) → digit_count (fold max 0 (values_of_rows rows)) ≡ most_by (λ row. digit_count (fold max 0 (values_of (pairs_of row)))) rows
values_most [] = digit_zero
values_most (row ∷ rows) =
    ap digit_count (fold-append (values_of (pairs_of row)) (values_of_rows rows)) ∙ digit_max (fold max 0 (values_of (pairs_of row))) (fold max 0 (values_of_rows rows))
    ∙ ap (λ n. max (digit_count (fold max 0 (values_of (pairs_of row)))) n) (values_most rows)

-- ---- items

pub total_is : (shape : Shape) (rows : List Row) (items : ℕ) → items ≡ sum_by (items_in shape) rows → min items (2 ^ 25 + 1) ≡ chosen_total shape rows
total_is (Shape.Object key fields) rows items is = let none = sum_zero rows in omega (arith, is, none)
total_is (Shape.List element) rows items is = let all = length-flat_map elements_of_row rows in omega (arith, is, all)
total_is (Shape.Set element) rows items is = let all = buckets_sum rows in omega (arith, is, all)
total_is (Shape.Map key value) rows items is = let all = buckets_sum rows in omega (arith, is, all)

pub bytes_are : (rows : List Row) (bytes : ℕ) → bytes ≡ sum_by bytes_in rows → min bytes (2 ^ 25 + 1) ≡ bytes_for rows
bytes_are rows bytes is = let all = bytes_together rows in omega (arith, is, all)

-- rows within the limits are few enough for widths
pub few_of_both : (shape : Shape) (old new : Table) (type_index : ℕ) → KeepsCounts shape old new type_index → AreFew shape (rows_of_both old new type_index)
few_of_both shape old new type_index keeps =
    let rows = rows_of_both old new type_index in
    record {
      items = (let limit = keeps.items in let all = total_is shape rows (sum_by (items_in shape) rows) refl in omega (arith, limit, all));
      bytes = (let few = rows_bytes_few shape old new type_index keeps in let all = bytes_together rows in omega (arith, few, all));
    }
