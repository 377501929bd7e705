-- Lemmas on the sets and maps of places: the widths that are chosen over two states hold them.
use Rattle.std.proofs.Common.{◌≡◌, ℕ, zero, suc, ◌+◌, ◌-◌, ◌*◌, ◌/◌, ◌^◌, ◌<◌, ◌≤◌, max, List, [], ◌∷◌, length, get_or, Option, Some, None, refl, arith}
use Rattle.std.specs.Prelude.{All, IfSome, fold, map, sum_by}
use Rattle.std.proofs.Math.Nat.{mul-le-mul}
use Rattle.std.proofs.lemmas.List.{length-map}
use Rattle.std.proofs.lemmas.List.Elements.{All-cons, All-map, All-push}
use Rattle.std.proofs.lemmas.List.Sums.{get_or-le-sum_by}
use Rattle.bit_array.specs.Digits.{digit_count}
use Rattle.bit_array.proofs.DigitCounts.{digit_count-holds, digit_count-le}
use Rattle.row_model.specs.Row.{FitsShape}
use Rattle.row_model.specs.Table.{Table, row_at}
use Rattle.row_model.specs.declared.row.Row.{Row}
use Rattle.schema_model.specs.declared.schema.Shape.{Shape}
use Rattle.row_model.specs.BothStates.{rows_of_both}
use Rattle.bucket_codec.specs.BucketCount.{bucket_count}
use Rattle.bucket_codec.specs.Packed.{set_pair, pairs_of, buckets_of, bucket_total, HoldsRow, IsPackableRow, IsPackable}
use Rattle.bucket_codec.specs.Run.{keys_of}
use Rattle.bucket_codec.specs.Widths.{sizes_of, buckets_of_rows, keys_of_rows, values_of, values_of_rows, width_for, set_widths, widths_for}
use Rattle.row_packing.specs.Chosen.{IsRowOf}
use Rattle.row_packing.specs.Places.{places_under, Agree}
use Rattle.row_packing.proofs.Greatest.{all_none, all_gives, all_parts, all_joined, all_images, sum_same, sum_images, below_greatest, greatest_below, width_holds, width_narrow}
use Rattle.row_packing.proofs.RowsUnder.{at_place, RiseFrom, sum_both, all_places}

-- ---- how many buckets

-- elements take as many buckets at least
count_le : (n : ℕ) → n ≤ bucket_count n
unfolding bucket_count
count_le zero = omega arith
count_le (suc zero) = omega arith
count_le (suc (suc zero)) = omega arith
count_le (suc (suc (suc n))) =
    let holds = digit_count-holds (10 * suc (suc (suc n)) / 7 - 1) in
    omega (arith, holds)

abbrev pub row_buckets : Row → ℕ
row_buckets row = bucket_count (length (pairs_of row))

pub buckets_sum : (rows : List Row) → buckets_of_rows rows ≡ sum_by row_buckets rows
buckets_sum rows = sum_images bucket_count (λ row. length (pairs_of row)) rows

buckets_here : (row : Option Row) → buckets_of row ≡ at_place row_buckets row
buckets_here None = refl
buckets_here (Some row) = refl

-- a row has no more elements than all rows have buckets
pub sizes_few : (rows : List Row) (limit : ℕ) → buckets_of_rows rows ≤ limit → All (λ row. length (pairs_of row) ≤ limit) rows
sizes_few rows limit few k d inside =
    omega (arith, get_or-le-sum_by row_buckets rows k d inside, buckets_sum rows, count_le (length (pairs_of (get_or rows k d))))

-- ---- numbers in range

set_keys : (P : ℕ → Type 0) (ordinals : List ℕ) → All P ordinals → All P (keys_of (map set_pair ordinals))
set_keys P ordinals all = All-map P (λ pair. pair.0) (map set_pair ordinals) (All-map (λ (pair : ℕ × ℕ). P pair.0) set_pair ordinals all)

set_zeros : (ordinals : List ℕ) → All (λ (pair : ℕ × ℕ). pair.1 < 1) (map set_pair ordinals)
set_zeros ordinals = All-map (λ (pair : ℕ × ℕ). pair.1 < 1) set_pair ordinals (all_gives (λ ordinal. Unit {0}) (λ ordinal. 0 < 1) ordinals (λ ordinal _. omega arith) (λ k d inside. tt))

keys_range : (shape : Shape) (row : Row) → IsRowOf shape row → All (λ key. key < 2 ^ 32) (keys_of (pairs_of row))
keys_range shape (Row.Set ordinals) is = set_keys (λ key. key < 2 ^ 32) ordinals is.1
keys_range shape (Row.Map pairs) is = All-map (λ key. key < 2 ^ 32) (λ pair. pair.0) pairs (all_gives (λ (pair : ℕ × ℕ). (pair.0 < 2 ^ 32) × (pair.1 < 2 ^ 32)) (λ pair. pair.0 < 2 ^ 32) pairs (λ pair both. both.0) is.1)
keys_range shape (Row.List ordinals) is = all_none (λ key. key < 2 ^ 32)
keys_range shape (Row.Object values) is = all_none (λ key. key < 2 ^ 32)

values_range : (shape : Shape) (row : Row) → IsRowOf shape row → All (λ value. value < 2 ^ 32) (values_of (pairs_of row))
values_range shape (Row.Set ordinals) is = All-map (λ value. value < 2 ^ 32) (λ pair. pair.1) (map set_pair ordinals) (all_gives (λ (pair : ℕ × ℕ). pair.1 < 1) (λ pair. pair.1 < 2 ^ 32) (map set_pair ordinals) (λ pair less. omega arith) (set_zeros ordinals))
values_range shape (Row.Map pairs) is = All-map (λ value. value < 2 ^ 32) (λ pair. pair.1) pairs (all_gives (λ (pair : ℕ × ℕ). (pair.0 < 2 ^ 32) × (pair.1 < 2 ^ 32)) (λ pair. pair.1 < 2 ^ 32) pairs (λ pair both. both.1) is.1)
values_range shape (Row.List ordinals) is = all_none (λ value. value < 2 ^ 32)
values_range shape (Row.Object values) is = all_none (λ value. value < 2 ^ 32)

-- ---- what the widths hold

-- what is chosen for the sets or maps of both states
pub record AreRuns (shape : Shape) (old new : Table) (type_index : ℕ) : Type 0 where
  pub agree : Agree old new type_index
  pub rows : All (IsRowOf shape) (rows_of_both old new type_index)
  pub few : buckets_of_rows (rows_of_both old new type_index) ≤ 2 ^ 25

-- the greatest numbers of some rows
abbrev pub most_size : List Row → ℕ
most_size rows = fold max 0 (sizes_of rows)

abbrev pub most_key : List Row → ℕ
most_key rows = fold max 0 (keys_of_rows rows)

abbrev pub most_value : List Row → ℕ
most_value rows = fold max 0 (values_of_rows rows)

-- a row is within the greatest numbers
pub record IsWithin (rows : List Row) (row : Row) : Type 0 where
  pub keys : All (λ (pair : ℕ × ℕ). pair.0 ≤ most_key rows) (pairs_of row)
  pub values : All (λ (pair : ℕ × ℕ). pair.1 ≤ most_value rows) (pairs_of row)
  pub size : length (pairs_of row) ≤ most_size rows
  pub few : length (pairs_of row) ≤ 2 ^ 25

pub within_all : (rows : List Row) → buckets_of_rows rows ≤ 2 ^ 25 → All (IsWithin rows) rows
within_all rows few k d inside =
    record {
      keys = all_images (λ key. key ≤ most_key rows) (λ pair. pair.0) (pairs_of (get_or rows k d))
          (all_parts (λ key. key ≤ most_key rows) (λ row. keys_of (pairs_of row)) rows (below_greatest (keys_of_rows rows)) k d inside);
      values = all_images (λ value. value ≤ most_value rows) (λ pair. pair.1) (pairs_of (get_or rows k d))
          (all_parts (λ value. value ≤ most_value rows) (λ row. values_of (pairs_of row)) rows (below_greatest (values_of_rows rows)) k d inside);
      size = all_images (λ size. size ≤ most_size rows) (λ row. length (pairs_of row)) rows (below_greatest (sizes_of rows)) k d inside;
      few = sizes_few rows (2 ^ 25) few k d inside;
    }

-- a key is below all ones
pub key_holds : (most key : ℕ) → key ≤ most → key < 2 ^ digit_count (most + 1) - 1
key_holds most key le = omega (arith, digit_count-holds (most + 1))

pub holds_set : (element : List ℕ) (rows : List Row) (row : Row) → IsRowOf (Shape.Set element) row → IsWithin rows row → HoldsRow (set_widths rows) row
holds_set element rows (Row.Set ordinals) is within =
    record {
      keys = all_gives (λ (pair : ℕ × ℕ). pair.0 ≤ most_key rows) (λ pair. pair.0 < 2 ^ digit_count (most_key rows + 1) - 1) (map set_pair ordinals) (λ pair le. key_holds (most_key rows) pair.0 le) within.keys;
      values = set_zeros ordinals;
      size = width_holds (most_size rows) (length (map set_pair ordinals)) within.size;
      few = omega (arith, within.few);
    }
holds_set element rows (Row.Map pairs) is within = absurd is.0
holds_set element rows (Row.List ordinals) is within = absurd is.0
holds_set element rows (Row.Object values) is within = absurd is.0

pub holds_map : (key value : List ℕ) (rows : List Row) (row : Row) → IsWithin rows row → HoldsRow (widths_for (Shape.Map key value) rows) row
holds_map key value rows row within =
    record {
      keys = all_gives (λ (pair : ℕ × ℕ). pair.0 ≤ most_key rows) (λ pair. pair.0 < 2 ^ digit_count (most_key rows + 1) - 1) (pairs_of row) (λ pair le. key_holds (most_key rows) pair.0 le) within.keys;
      values = all_gives (λ (pair : ℕ × ℕ). pair.1 ≤ most_value rows) (λ pair. pair.1 < 2 ^ width_for (most_value rows)) (pairs_of row) (λ pair le. width_holds (most_value rows) pair.1 le) within.values;
      size = width_holds (most_size rows) (length (pairs_of row)) within.size;
      few = omega (arith, within.few);
    }

-- ---- the widths are at most 64

module _ (shape : Shape) (old new : Table) (type_index : ℕ) (are : AreRuns shape old new type_index) where
  small_keys : most_key (rows_of_both old new type_index) < 2 ^ 32
  small_keys =
      greatest_below (2 ^ 32) (keys_of_rows (rows_of_both old new type_index)) (omega arith)
      (all_joined (λ key. key < 2 ^ 32) (λ row. keys_of (pairs_of row)) (rows_of_both old new type_index)
      (all_gives (IsRowOf shape) (λ row. All (λ key. key < 2 ^ 32) (keys_of (pairs_of row))) (rows_of_both old new type_index) (keys_range shape) are.rows))

  small_values : most_value (rows_of_both old new type_index) < 2 ^ 32
  small_values =
      greatest_below (2 ^ 32) (values_of_rows (rows_of_both old new type_index)) (omega arith)
      (all_joined (λ value. value < 2 ^ 32) (λ row. values_of (pairs_of row)) (rows_of_both old new type_index)
      (all_gives (IsRowOf shape) (λ row. All (λ value. value < 2 ^ 32) (values_of (pairs_of row))) (rows_of_both old new type_index) (values_range shape) are.rows))

  small_sizes : most_size (rows_of_both old new type_index) < 2 ^ 32
  small_sizes =
      greatest_below (2 ^ 32) (sizes_of (rows_of_both old new type_index)) (omega arith)
      (All-map (λ size. size < 2 ^ 32) (λ row. length (pairs_of row)) (rows_of_both old new type_index)
      (all_gives (λ row. length (pairs_of row) ≤ 2 ^ 25) (λ row. length (pairs_of row) < 2 ^ 32) (rows_of_both old new type_index) (λ row le. omega arith)
      (sizes_few (rows_of_both old new type_index) (2 ^ 25) are.few)))

  pub narrow_set : All (λ width. width ≤ 64) (set_widths (rows_of_both old new type_index))
  narrow_set =
      let size = width_for (most_size (rows_of_both old new type_index)) in
      let key = digit_count (most_key (rows_of_both old new type_index) + 1) in
      All-cons (λ width. width ≤ 64) (width_for (buckets_of_rows (rows_of_both old new type_index))) (size ∷ key ∷ []) (width_narrow (buckets_of_rows (rows_of_both old new type_index)) (omega (arith, are.few)))
      (All-cons (λ width. width ≤ 64) size (key ∷ []) (width_narrow (most_size (rows_of_both old new type_index)) (omega (arith, small_sizes)))
      (All-cons (λ width. width ≤ 64) key [] (digit_count-le (most_key (rows_of_both old new type_index) + 1) 64 (omega (arith, small_keys))) (all_none (λ width. width ≤ 64))))

  pub narrow_value : width_for (most_value (rows_of_both old new type_index)) ≤ 64
  narrow_value = width_narrow (most_value (rows_of_both old new type_index)) (omega (arith, small_values))

  pub count_places : (ordinals : List ℕ) → RiseFrom 0 ordinals → bucket_total (places_under new type_index ordinals) ≤ buckets_of_rows (rows_of_both old new type_index)
  count_places ordinals rise =
      omega (
        arith,
        sum_same buckets_of (at_place row_buckets) (places_under new type_index ordinals) buckets_here,
        buckets_sum (rows_of_both old new type_index),
        sum_both old new type_index are.agree row_buckets ordinals rise,
      )

packable : (shape : Shape) (widths : List ℕ) (row : Option Row) → IfSome row (λ r. FitsShape shape r × HoldsRow widths r) → IsPackableRow shape widths row
packable shape widths None holds = tt
packable shape widths (Some row) holds = holds

-- so few buckets have few bits
few_bits : (count width : ℕ) → count ≤ 2 ^ 25 → width ≤ 128 → count * width < 2 ^ 63
few_bits count width few narrow = let le : count * width ≤ 2 ^ 25 * 128 = mul-le-mul few narrow in omega arith

pub set_can : (element : List ℕ) (old new : Table) (type_index : ℕ) → AreRuns (Shape.Set element) old new type_index → (ordinals : List ℕ) → RiseFrom 0 ordinals → length ordinals ≤ 2 ^ 22
    → IsPackable (Shape.Set element) (set_widths (rows_of_both old new type_index)) (places_under new type_index ordinals)
set_can element old new type_index are ordinals rise few =
    let rows = rows_of_both old new type_index in
    let places = places_under new type_index ordinals in
    let counted = count_places (Shape.Set element) old new type_index are ordinals rise in
    let narrow = narrow_set (Shape.Set element) old new type_index are in
    let third : digit_count (most_key rows + 1) ≤ 64 = narrow 2 0 (omega arith) in
    let holds : All (λ r. FitsShape (Shape.Set element) r × HoldsRow (set_widths rows) r) rows = λ k d inside. ((are.rows k d inside).0, holds_set element rows (get_or rows k d) (are.rows k d inside) (within_all rows are.few k d inside)) in
    record {
      counted = refl;
      narrow = narrow;
      each = all_gives _ (IsPackableRow (Shape.Set element) (set_widths rows)) places (packable (Shape.Set element) (set_widths rows))
          (all_places old new type_index are.agree (λ r. FitsShape (Shape.Set element) r × HoldsRow (set_widths rows) r) ordinals holds);
      pointers = width_holds (buckets_of_rows rows) (bucket_total places) counted;
      places = omega (arith, length-map ordinals (row_at new type_index), few);
      buckets = few_bits (bucket_total places) (digit_count (most_key rows + 1) + 0) (omega (arith, counted, are.few)) (omega (arith, third));
    }

pub map_narrow : (key value : List ℕ) (old new : Table) (type_index : ℕ) → AreRuns (Shape.Map key value) old new type_index
    → All (λ width. width ≤ 64) (widths_for (Shape.Map key value) (rows_of_both old new type_index))
map_narrow key value old new type_index are =
    All-push (λ width. width ≤ 64) (set_widths (rows_of_both old new type_index)) (width_for (most_value (rows_of_both old new type_index))) (narrow_set (Shape.Map key value) old new type_index are)
    (narrow_value (Shape.Map key value) old new type_index are)

pub map_can : (key value : List ℕ) (old new : Table) (type_index : ℕ) → AreRuns (Shape.Map key value) old new type_index → (ordinals : List ℕ) → RiseFrom 0 ordinals → length ordinals ≤ 2 ^ 22
    → IsPackable (Shape.Map key value) (widths_for (Shape.Map key value) (rows_of_both old new type_index)) (places_under new type_index ordinals)
map_can key value old new type_index are ordinals rise few =
    let shape : Shape = Shape.Map key value in
    let rows = rows_of_both old new type_index in
    let widths = widths_for (Shape.Map key value) rows in
    let places = places_under new type_index ordinals in
    let counted = count_places shape old new type_index are ordinals rise in
    let narrow = map_narrow key value old new type_index are in
    let third : digit_count (most_key rows + 1) ≤ 64 = narrow 2 0 (omega arith) in
    let fourth = narrow_value shape old new type_index are in
    let holds : All (λ r. FitsShape (Shape.Map key value) r × HoldsRow widths r) rows = λ k d inside. ((are.rows k d inside).0, holds_map key value rows (get_or rows k d) (within_all rows are.few k d inside)) in
    record {
      counted = refl;
      narrow = narrow;
      each = all_gives _ (IsPackableRow (Shape.Map key value) widths) places (packable (Shape.Map key value) widths)
          (all_places old new type_index are.agree (λ r. FitsShape (Shape.Map key value) r × HoldsRow widths r) ordinals holds);
      pointers = width_holds (buckets_of_rows rows) (bucket_total places) counted;
      places = omega (arith, length-map ordinals (row_at new type_index), few);
      buckets = few_bits (bucket_total places) (digit_count (most_key rows + 1) + width_for (most_value rows)) (omega (arith, counted, are.few)) (omega (arith, third, fourth));
    }
