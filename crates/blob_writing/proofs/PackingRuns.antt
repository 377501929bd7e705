-- Sets and maps that can be packed: there are words of them.
use Rattle.std.proofs.Common.{◌≡◌, ℕ, ◌+◌, ◌-◌, ◌*◌, ◌^◌, ◌<◌, ◌≤◌, suc, zero, List, [], ◌∷◌, length, get_or, take, refl, sym, ap, ◌∙◌, subst, arith}
use Rattle.std.specs.Prelude.{All, Option, Some, None, IfSome, flat_map, map, slice_get}
use Rattle.std.specs.List.{range_with_len}
use Rattle.std.proofs.Math.Nat.{mul-le-mul_right}
use Rattle.std.proofs.lemmas.Bool.{cond-true, cond-false, eq-eqb, ne_eqb}
use Rattle.std.proofs.lemmas.List.{get_or-map, length-map}
use Rattle.std.proofs.lemmas.List.Concat.{get_or-flat_map, length-flat_map}
use Rattle.std.proofs.lemmas.List.Elements.{All-cons}
use Rattle.std.proofs.lemmas.List.FromFn.{get_or-map-range_with_len, length-map-range_with_len}
use Rattle.std.proofs.lemmas.List.Sums.{sum_by_more, sum_by-take-le}
use Rattle.std.proofs.lemmas.Nat.{mul-add-lt, pow-add, pow_pos}
use Rattle.std.proofs.lemmas.Option.{get_or_from_slice_get, slice_get_within}
use Rattle.bit_array.specs.Element.{AreWords, element_of, number_of, words_of}
use Rattle.schema_model.specs.declared.schema.Shape.{Shape}
use Rattle.row_model.specs.Row.{FitsShape, IsRowInRange, Rises}
use Rattle.row_model.specs.declared.row.Row.{Row}
use Rattle.bucket_codec.specs.BucketCount.{bucket_count}
use Rattle.bucket_codec.specs.BucketPlace.{pointer_width, size_width, key_width, value_width, place_width, bucket_width, start_at, end_at, size_at, run_at, IsRowOf, IsWidthCount}
use Rattle.bucket_codec.specs.Inserted.{inserted}
use Rattle.bucket_codec.specs.Packed.{set_pair, pairs_of, buckets_of, bucket_total, IsPackable, IsPackableRow, IsPacked, LaysRun, PacksPlace}
use Rattle.bucket_codec.specs.Run.{Bucket, bucket_in, keys_of, run_in, IsPairInRange, IsZeroIfEmpty, SpellsRun}
use Rattle.row_packing.proofs.Greatest.{all_gives, all_joined, all_none, sum_same}
use Rattle.blob_writing.proofs.PackingRecords.{AreInRange}
use Rattle.blob_writing.proofs.ElementsLaid.{HasLaid, laid, parts_of_element}
use Rattle.blob_writing.proofs.RunsFilled.{OfBucket, each_inserted, length-inserted, more_buckets, run_spells}

-- words of sets or maps
pub record PacksRuns (shape : Shape) (widths : List ℕ) (rows : List (Option Row)) : Type 0 where
  pub first : List ℕ
  pub second : List ℕ
  pub first_words : AreWords first
  pub second_words : AreWords second
  pub packed : IsPacked shape widths rows first second

-- ---- a bucket

-- the number that a bucket is: all ones is an empty key
abbrev bucket_number : ℕ → Bucket → ℕ
bucket_number key_width None = 2 ^ key_width - 1
bucket_number key_width (Some pair) = pair.1 * 2 ^ key_width + pair.0

abbrev FitsBucket : ℕ → ℕ → ℕ × ℕ → Type 0
FitsBucket key_width value_width pair = (pair.0 < 2 ^ key_width - 1) × (pair.1 < 2 ^ value_width)

pub number_below : (kw vw : ℕ) (b : Bucket) → OfBucket (FitsBucket kw vw) b → bucket_number kw b < 2 ^ (kw + vw)
number_below kw vw None fits =
    let below = mul-add-lt 0 (2 ^ kw) (2 ^ kw - 1) (2 ^ vw) (pow_pos vw) (let l : 2 ^ kw - 1 < 2 ^ kw = omega (arith, pow_pos kw) in l) in
    let number : 2 ^ kw - 1 < 2 ^ kw * 2 ^ vw = omega (arith, below) in
    subst (λ n. 2 ^ kw - 1 < n) (sym (pow-add 2 kw vw)) number
number_below kw vw (Some pair) fits =
    subst (λ n. pair.1 * 2 ^ kw + pair.0 < n) (sym (pow-add 2 kw vw)) (mul-add-lt pair.1 (2 ^ kw) pair.0 (2 ^ vw) fits.1 (let l : pair.0 < 2 ^ kw = omega (arith, fits.0) in l))

pub record IsBucket (words : List ℕ) (kw vw index : ℕ) (b : Bucket) : Type 0 where
  pub is : bucket_in words kw vw index ≡ b
  pub zero_if_empty : IsZeroIfEmpty words kw vw index

pub bucket_is : (words : List ℕ) (kw vw index : ℕ) (b : Bucket) → OfBucket (FitsBucket kw vw) b → element_of words (index * (kw + vw)) (kw + vw) ≡ bucket_number kw b → IsBucket words kw vw index b
bucket_is words kw vw index None fits there =
    let at = index * (kw + vw) in
    let number : 2 ^ kw - 1 ≡ 0 * 2 ^ kw + (2 ^ kw - 1) = omega arith in
    let parts = parts_of_element words at kw vw (2 ^ kw - 1) 0 (omega (arith, pow_pos kw)) (there ∙ number) in
    record {
      is = cond-true _ _ _ (eq-eqb (element_of words at kw) (2 ^ kw - 1) parts.1);
      zero_if_empty = λ none. parts.0;
    }
bucket_is words kw vw index (Some pair) fits there =
    let at = index * (kw + vw) in
    let parts = parts_of_element words at kw vw pair.0 pair.1 (omega (arith, fits.0)) there in
    let taken : bucket_in words kw vw index ≡ Some pair =
    cond-false _ _ _ (ne_eqb (element_of words at kw) (2 ^ kw - 1) (λ (e : element_of words at kw ≡ 2 ^ kw - 1). omega (arith, e, parts.1, fits.0)))
    ∙ ap (λ (k : ℕ). Some (k, element_of words (at + kw) vw)) parts.1 ∙ ap (λ (v : ℕ). Some (pair.0, v)) parts.0 in
    record {
      is = taken;
      zero_if_empty = λ none. absurd (let e : None ≡ Some pair = sym none ∙ taken in cc);
    }

-- ---- the buckets of all rows

abbrev run_of : Option Row → List Bucket
run_of None = []
run_of (Some row) = inserted (bucket_count (length (pairs_of row))) (pairs_of row)

length-run_of : (row : Option Row) → length (run_of row) ≡ buckets_of row
length-run_of None = refl
length-run_of (Some row) = length-inserted (bucket_count (length (pairs_of row))) (pairs_of row) (more_buckets (length (pairs_of row)))

pub length-runs : (rows : List (Option Row)) → length (flat_map run_of rows) ≡ bucket_total rows
length-runs rows = length-flat_map run_of rows ∙ sum_same (λ row. length (run_of row)) buckets_of rows length-run_of

both : (pairs : List (ℕ × ℕ)) (kw vw : ℕ) → All (λ pair. pair.0 < 2 ^ kw - 1) pairs → All (λ pair. pair.1 < 2 ^ vw) pairs → All (FitsBucket kw vw) pairs
both pairs kw vw keys values = λ k d inside. (keys k d inside, values k d inside)

pub fits_run : (shape : Shape) (widths : List ℕ) (row : Option Row) → IsPackableRow shape widths row → All (OfBucket (FitsBucket (key_width widths) (value_width widths))) (run_of row)
fits_run shape widths None fits = λ k d inside. absurd (omega arith)
fits_run shape widths (Some row) fits =
    each_inserted (FitsBucket (key_width widths) (value_width widths)) (bucket_count (length (pairs_of row))) (pairs_of row) (more_buckets (length (pairs_of row)))
    (both (pairs_of row) (key_width widths) (value_width widths) fits.1.keys fits.1.values)

-- ---- the words of the buckets

-- a list by its elements
range_is : (f : ℕ → Bucket) (start : ℕ) (run : List Bucket) → ((j : ℕ) → j < length run → f (start + j) ≡ get_or run j None) → map f (range_with_len start (length run)) ≡ run
range_is f start [] same = refl
range_is f start (b ∷ run) same =
    let first : f start ≡ b = ap f (let e : start ≡ start + 0 = omega arith in e) ∙ same 0 (omega arith) in
    let rest = range_is f (start + 1) run (λ j inside. ap f (let e : start + 1 + j ≡ start + suc j = omega arith in e) ∙ same (suc j) (omega arith)) in
    ap (λ (x : Bucket). x ∷ map f (range_with_len (start + 1) (length run))) first ∙ ap (λ (l : List Bucket). b ∷ l) rest

-- ---- rows

abbrev size_of : Option Row → ℕ
size_of None = 0
size_of (Some row) = length (pairs_of row)

size_fits : (shape : Shape) (widths : List ℕ) (row : Option Row) → IsPackableRow shape widths row → size_of row < 2 ^ size_width widths
size_fits shape widths None fits = pow_pos (size_width widths)
size_fits shape widths (Some row) fits = fits.1.size

-- the keys of a set are its elements
set_keys : (elements : List ℕ) → keys_of (map set_pair elements) ≡ elements
set_keys [] = refl
set_keys (e ∷ elements) = ap (λ (l : List ℕ). e ∷ l) (set_keys elements)

row_is : (shape : Shape) (count : ℕ) (row : Row) → IsWidthCount shape count → FitsShape shape row → IsRowOf shape row (pairs_of row)
row_is (Shape.Set element) count (Row.Set ordinals) counted fits = sym (set_keys ordinals)
row_is (Shape.Map key value) count (Row.Map pairs) counted fits = refl
row_is (Shape.Set element) count _ counted fits = absurd fits
row_is (Shape.Map key value) count _ counted fits = absurd fits
row_is _ count _ counted fits = absurd counted

keys_rise : (shape : Shape) (count : ℕ) (row : Row) → IsWidthCount shape count → FitsShape shape row → Rises (keys_of (pairs_of row))
keys_rise (Shape.Set element) count (Row.Set ordinals) counted fits = subst Rises (sym (set_keys ordinals)) fits
keys_rise (Shape.Map key value) count (Row.Map pairs) counted fits = fits
keys_rise (Shape.Set element) count _ counted fits = absurd fits
keys_rise (Shape.Map key value) count _ counted fits = absurd fits
keys_rise _ count _ counted fits = absurd counted

set_in_range : (ordinals : List ℕ) → All (λ ordinal. ordinal < 2 ^ 32) ordinals → All IsPairInRange (map set_pair ordinals)
set_in_range [] range = all_none IsPairInRange
set_in_range (o ∷ ordinals) range =
    All-cons IsPairInRange (set_pair o) (map set_pair ordinals) (range 0 0 (omega arith), omega arith) (set_in_range ordinals (λ k d inside. range (suc k) d (omega arith)))

pairs_in_range : (row : Row) → IsRowInRange row → All IsPairInRange (pairs_of row)
pairs_in_range (Row.Set ordinals) range = set_in_range ordinals range
pairs_in_range (Row.Map pairs) range = range
pairs_in_range (Row.Object values) range = all_none IsPairInRange
pairs_in_range (Row.List ordinals) range = all_none IsPairInRange

module _ (shape : Shape) (widths : List ℕ) (rows : List (Option Row)) (can : IsPackable shape widths rows) where
  numbers : List ℕ
  numbers = map (bucket_number (key_width widths)) (flat_map run_of rows)

  buckets_fit : All (OfBucket (FitsBucket (key_width widths) (value_width widths))) (flat_map run_of rows)
  buckets_fit =
      all_joined (OfBucket (FitsBucket (key_width widths) (value_width widths))) run_of rows
      (all_gives (IsPackableRow shape widths) (λ row. All (OfBucket (FitsBucket (key_width widths) (value_width widths))) (run_of row)) rows (fits_run shape widths) can.each)

  length-numbers : length numbers ≡ bucket_total rows
  unfolding numbers
  length-numbers = length-map (flat_map run_of rows) (bucket_number (key_width widths)) ∙ length-runs rows

  number_at : (index d : ℕ) → index < bucket_total rows → get_or numbers index d ≡ bucket_number (key_width widths) (get_or (flat_map run_of rows) index None)
  unfolding numbers
  number_at index d inside = get_or-map (bucket_number (key_width widths)) (flat_map run_of rows) index None d (omega (arith, length-runs rows, inside))

  fits_at : (index : ℕ) → index < bucket_total rows → OfBucket (FitsBucket (key_width widths) (value_width widths)) (get_or (flat_map run_of rows) index None)
  fits_at index inside = buckets_fit index None (omega (arith, length-runs rows, inside))

  second_laid : HasLaid (bucket_width widths) numbers
  second_laid =
      laid (bucket_width widths) numbers (λ k d inside.
      let below : k < bucket_total rows = omega (arith, inside, length-numbers) in
      subst (λ n. n < 2 ^ bucket_width widths) (sym (number_at k d below)) (number_below (key_width widths) (value_width widths) (get_or (flat_map run_of rows) k None) (fits_at k below)))

  second : List ℕ
  second = second_laid.words

  second_at : (index : ℕ) → index < bucket_total rows → IsBucket second (key_width widths) (value_width widths) index (get_or (flat_map run_of rows) index None)
  unfolding second
  second_at index inside =
      bucket_is second_laid.words (key_width widths) (value_width widths) index (get_or (flat_map run_of rows) index None) (fits_at index inside)
      (second_laid.at index (omega (arith, inside, length-numbers)) ∙ number_at index 0 inside)

  -- the runs end one behind the other
  end_of : ℕ → ℕ
  end_of place = bucket_total (take place rows)

  end_more : (place : ℕ) → place < length rows → end_of (place + 1) ≡ end_of place + buckets_of (get_or rows place None)
  unfolding end_of
  end_more place inside = sum_by_more buckets_of rows place None inside

  end_within : (place : ℕ) → end_of place ≤ bucket_total rows
  unfolding end_of
  end_within place = sum_by-take-le buckets_of rows place

  run_laid : (place : ℕ) → place < length rows
      → run_in second (key_width widths) (value_width widths) (end_of place) (buckets_of (get_or rows place None)) ≡ run_of (get_or rows place None)
  unfolding end_of
  run_laid place inside =
      let row = get_or rows place None in
      let long = length-run_of row in
      let front = length-runs (take place rows) in
      let more = end_more place inside in
      let most = end_within (place + 1) in
      let each = λ (j : ℕ) (below : j < length (run_of row)).
      (second_at (bucket_total (take place rows) + j) (omega (arith, more, most, long, below))).is
      ∙ ap (λ (n : ℕ). get_or (flat_map run_of rows) (n + j) None) (sym front)
      ∙ get_or-flat_map run_of rows place j None None inside below in
      ap (λ (n : ℕ). run_in second (key_width widths) (value_width widths) (bucket_total (take place rows)) n) (sym long)
      ∙ range_is (bucket_in second (key_width widths) (value_width widths)) (bucket_total (take place rows)) (run_of row) each

  -- ---- the words of the places

  place_number : ℕ → ℕ
  place_number place = size_of (get_or rows place None) * 2 ^ pointer_width widths + end_of (place + 1)

  places : List ℕ
  places = map place_number (range_with_len 0 (length rows))

  length-places : length places ≡ length rows
  unfolding places
  length-places = length-map-range_with_len place_number 0 (length rows)

  place_at : (place d : ℕ) → place < length rows → get_or places place d ≡ place_number place
  unfolding places
  place_at place d inside = get_or-map-range_with_len place_number 0 (length rows) place place d inside (omega arith)

  end_below : (place : ℕ) → end_of place < 2 ^ pointer_width widths
  end_below place = omega (arith, end_within place, can.pointers)

  size_below : (place : ℕ) → place < length rows → size_of (get_or rows place None) < 2 ^ size_width widths
  size_below place inside = size_fits shape widths (get_or rows place None) (can.each place None inside)

  first_laid : HasLaid (place_width widths) places
  unfolding place_number
  first_laid =
      laid (place_width widths) places (λ k d inside.
      let below : k < length rows = omega (arith, inside, length-places) in
      let small = mul-add-lt (size_of (get_or rows k None)) (2 ^ pointer_width widths) (end_of (k + 1)) (2 ^ size_width widths) (size_below k below) (end_below (k + 1)) in
      subst (λ n. n < 2 ^ place_width widths) (sym (place_at k d below)) (subst (λ n. place_number k < n) (sym (pow-add 2 (pointer_width widths) (size_width widths))) small))

  first : List ℕ
  first = first_laid.words

  place_is : (place : ℕ) → place < length rows → (size_at widths first place ≡ size_of (get_or rows place None)) × (end_at widths first place ≡ end_of (place + 1))
  unfolding first place_number
  place_is place inside =
      parts_of_element first_laid.words (place * place_width widths) (pointer_width widths) (size_width widths) (end_of (place + 1)) (size_of (get_or rows place None)) (end_below (place + 1))
      (first_laid.at place (omega (arith, inside, length-places)) ∙ place_at place 0 inside)

  start_is : (place : ℕ) → place < length rows → start_at widths first place ≡ end_of place
  unfolding end_of
  start_is zero inside = refl
  start_is (suc earlier) inside =
      let next : earlier + 1 ≡ suc earlier = omega arith in
      (place_is earlier (omega arith)).1 ∙ ap end_of next

  run_is : (place : ℕ) → place < length rows → run_at widths first second place ≡ run_of (get_or rows place None)
  run_is place inside =
      let start = start_is place inside in
      let end = (place_is place inside).1 in
      let more = end_more place inside in
      let long : end_at widths first place - start_at widths first place ≡ buckets_of (get_or rows place None) = omega (arith, start, end, more) in
      ap (λ (n : ℕ). run_in second (key_width widths) (value_width widths) (start_at widths first place) n) long
      ∙ ap (λ (n : ℕ). run_in second (key_width widths) (value_width widths) n (buckets_of (get_or rows place None))) start
      ∙ run_laid place inside

  -- ---- the rows

  spelled : (place total : ℕ) (row : Row) → place < length rows → get_or rows place None ≡ Some row → bucket_total rows ≤ total → IsRowInRange row → PacksPlace shape widths total first second place (Some row)
  unfolding second
  spelled place total row inside is most range =
      let start = start_is place inside in
      let here = place_is place inside in
      let more = end_more place inside in
      let buckets = ap buckets_of is in
      let size = ap size_of is in
      let run = run_is place inside ∙ ap run_of is in
      let fits : IsPackableRow shape widths (Some row) = subst (IsPackableRow shape widths) is (can.each place None inside) in
      let all = end_within (place + 1) in
      let end : end_at widths first place ≡ start_at widths first place + bucket_count (length (pairs_of row)) = omega (arith, start, here.1, more, buckets) in
      let held : end_of (place + 1) * bucket_width widths ≤ bucket_total rows * bucket_width widths = mul-le-mul_right (bucket_width widths) all in
      let words = second_laid.long in
      let counted = ap (λ (n : ℕ). words_of (n * bucket_width widths)) length-numbers in (
        end,
        (
          pairs_of row,
          row_is shape (length widths) row can.counted fits.0,
          record {
            span = record {
              rises = omega (arith, end);
              counted = omega (arith, here.1, all, most);
              held = subst (λ n. n * bucket_width widths ≤ 64 * length second_laid.words) (sym here.1) (omega (arith, held, words, counted));
            };
            run = subst (λ (r : List Bucket). SpellsRun r (pairs_of row)) (sym run) (run_spells (pairs_of row) (pairs_in_range row range) (keys_rise shape (length widths) row can.counted fits.0));
            sized = here.0 ∙ size;
          },
        ),
      )

  packs : AreInRange rows → (place total : ℕ) (row : Option Row) → slice_get rows place ≡ Some row → bucket_total rows ≤ total → PacksPlace shape widths total first second place row
  packs range place total None at most =
      let inside = slice_get_within rows place None at in
      let is : get_or rows place None ≡ None = get_or_from_slice_get rows place None None at in
      let buckets = ap buckets_of is in
      let here = place_is place inside in
      (omega (arith, here.1, start_is place inside, end_more place inside, buckets), here.0 ∙ ap size_of is)
  packs range place total (Some row) at most =
      let inside = slice_get_within rows place (Some row) at in
      let is : get_or rows place None ≡ Some row = get_or_from_slice_get rows place (Some row) None at in
      spelled place total row inside is most (subst (λ (r : Option Row). IfSome r IsRowInRange) is (range place None inside))

  lays : (place : ℕ) (row : Option Row) → slice_get rows place ≡ Some row → LaysRun widths first second place row
  lays place None at = tt
  lays place (Some row) at =
      run_is place (slice_get_within rows place (Some row) at) ∙ ap run_of (get_or_from_slice_get rows place (Some row) None at)

  pub packs_runs : AreInRange rows → PacksRuns shape widths rows
  unfolding first second
  packs_runs range =
      let places_bits = ap (λ (n : ℕ). n * place_width widths) length-places in
      let buckets_bits = ap (λ (n : ℕ). n * bucket_width widths) length-numbers in
      record {
        first = first;
        second = second;
        first_words = first_laid.are;
        second_words = second_laid.are;
        packed = record {
          packs = packs range;
          laid = lays;
          zeros = λ index inside. (second_at index inside).zero_if_empty;
          first_bits = record { long = first_laid.long ∙ ap words_of places_bits; below = subst (λ n. number_of first_laid.words < 2 ^ n) places_bits first_laid.below };
          second_bits = record { long = second_laid.long ∙ ap words_of buckets_bits; below = subst (λ n. number_of second_laid.words < 2 ^ n) buckets_bits second_laid.below };
        };
      }
