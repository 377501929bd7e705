-- A list, set or map that a place spells fits the widths of its type, but for its end; and the items that it has.
use Rattle.std.proofs.Common.{◌≡◌, ◌≢◌, ℕ, ◌+◌, ◌-◌, ◌*◌, ◌^◌, ◌<◌, List, [], ◌∷◌, zero, suc, Bool, true, false, cond, ◌==◌, None, Some, length, map, refl, ap, sym, ◌∙◌, subst, arith}
use Rattle.std.specs.Prelude.{All, slice_index}
use Rattle.std.specs.List.{range_with_len}
use Rattle.std.proofs.lemmas.Bool.Decides.{nat_tests}
use Rattle.std.proofs.lemmas.List.{length-map}
use Rattle.std.proofs.lemmas.List.FromFn.{length-range_with_len}
use Rattle.std.proofs.lemmas.List.Elements.{All-cons}
use Rattle.std.proofs.lemmas.List.Sorted.{All-permutation}
use Rattle.bit_array.specs.Element.{element_of}
use Rattle.bit_array.proofs.Elements.{element_of-lt}
use Rattle.schema_model.specs.declared.schema.Shape.{Shape}
use Rattle.row_model.specs.declared.row.Row.{Row}
use Rattle.list_codec.specs.ListPlace as lists
use Rattle.bucket_codec.specs.BucketCount.{bucket_count}
use Rattle.bucket_codec.specs.BucketPlace as buckets
use Rattle.bucket_codec.specs.Run.{Bucket, bucket_in, keys_of, taken_of}
use Rattle.type_rows.specs.declared.section.Section.{Section}
use Rattle.type_rows.specs.Layout.{items_of_row}
use Rattle.type_rows.specs.Holds.{IsBelowOnes}
use Rattle.type_rows.specs.Ends.{FitsBehind}
use Rattle.type_rows.specs.Loads.{Spells}
use Rattle.type_rows.specs.WordsHeld.{part_bytes, row_bytes}
use Rattle.type_rows.specs.RunItems.{HasRuns, items_at}
use Rattle.type_rows.proofs.OnceFirst.{some_once}

-- The elements of a width are below its power, and as many as there are places.
elements_low : (words : List ℕ) (width : ℕ) (places : List ℕ) → All (λ element. element < 2 ^ width) (map (λ index. element_of words (index * width) width) places)
elements_low words width [] k d l = absurd (omega (arith, l))
elements_low words width (place ∷ places) zero d l = element_of-lt words (place * width) width
elements_low words width (place ∷ places) (suc k) d l = elements_low words width places k d (omega (arith, l))

list_long : (words : List ℕ) (width start end : ℕ) → length (lists.elements_between words width start end) ≡ end - start
list_long words width start end = length-map (range_with_len start (end - start)) (λ index. element_of words (index * width) width) ∙ length-range_with_len start (end - start)

-- A taken bucket is below all ones, and its value below the power of its width.
abbrev pub IsInWidths : ℕ → ℕ → ℕ × ℕ → Type 0
IsInWidths key_width value_width pair = IsBelowOnes key_width pair.0 × (pair.1 < 2 ^ value_width)

chosen : (test : Bool) (key value : ℕ) (pair : ℕ × ℕ) → cond test None (Some (key, value)) ≡ Some pair → (test ≡ false) × ((key, value) ≡ pair)
chosen true key value pair at = absurd cc
chosen false key value pair at = (refl, some_once (key, value) pair at)

differ : (one other : ℕ) → (one == other) ≡ false → one ≢ other
differ one other apart same = grind (arith, nat_tests)

bucket_low : (words : List ℕ) (key_width value_width index : ℕ) (pair : ℕ × ℕ) → bucket_in words key_width value_width index ≡ Some pair → IsInWidths key_width value_width pair
bucket_low words key_width value_width index pair at =
    let bit = index * (key_width + value_width) in
    let key = element_of words bit key_width in
    let value = element_of words (bit + key_width) value_width in
    let told = chosen (key == 2 ^ key_width - 1) key value pair at in
    let apart = differ key (2 ^ key_width - 1) told.0 in
    let low : IsInWidths key_width value_width (key, value) = (omega (arith, apart, element_of-lt words bit key_width), element_of-lt words (bit + key_width) value_width) in
    subst (IsInWidths key_width value_width) told.1 low

with_bucket : (P : ℕ × ℕ → Type 0) (bucket : Bucket) (rest : List Bucket) → ((pair : ℕ × ℕ) → bucket ≡ Some pair → P pair) → All P (taken_of rest) → All P (taken_of (bucket ∷ rest))
with_bucket P None rest here all = all
with_bucket P (Some pair) rest here all = All-cons P pair (taken_of rest) (here pair refl) all

taken_low : (P : ℕ × ℕ → Type 0) (bucket : ℕ → Bucket) (places : List ℕ) → ((index : ℕ) (pair : ℕ × ℕ) → bucket index ≡ Some pair → P pair) → All P (taken_of (map bucket places))
taken_low P bucket [] each = λ k d l. absurd (omega (arith, l))
taken_low P bucket (place ∷ places) each = with_bucket P (bucket place) (map bucket places) (each place) (taken_low P bucket places each)

pairs_low : (section : Section) (place : ℕ) (pairs : List (ℕ × ℕ)) → buckets.SpellsPairs section.widths section.total section.first section.second place pairs
    → All (IsInWidths (buckets.key_width section.widths) (buckets.value_width section.widths)) pairs
pairs_low section place pairs spells =
    let kw = buckets.key_width section.widths in
    let vw = buckets.value_width section.widths in
    All-permutation (IsInWidths kw vw) (taken_of (buckets.run_at section.widths section.first section.second place)) pairs spells.run.same
    (taken_low (IsInWidths kw vw) (bucket_in section.second kw vw) (range_with_len (buckets.start_at section.widths section.first place) (buckets.end_at section.widths section.first place - buckets.start_at section.widths section.first place))
    (bucket_low section.second kw vw))

keys_low : (kw vw : ℕ) (pairs : List (ℕ × ℕ)) → All (IsInWidths kw vw) pairs → All (λ ordinal. IsBelowOnes kw ordinal) (keys_of pairs)
keys_low kw vw [] all k d l = absurd (omega (arith, l))
keys_low kw vw (pair ∷ pairs) all zero d l = (all 0 pair (omega arith)).0
keys_low kw vw (pair ∷ pairs) all (suc k) d l = keys_low kw vw pairs (λ i e h. all (suc i) e (omega (arith, h))) k d (omega (arith, l))

-- The row of a place has the items that are told there.
pub items_told : (shape : Shape) (section : Section) (place : ℕ) (row : Row) → Spells shape section place row → items_of_row row ≡ items_at shape section place
items_told (Shape.Object key fields) section place (Row.Object values) spells = refl
items_told (Shape.Object key fields) section place _ spells = absurd spells
items_told (Shape.List element) section place (Row.List ordinals) spells =
    ap length spells.are ∙ list_long section.second (lists.element_width section.widths) (lists.start_at section.widths section.first place) (lists.end_at section.widths section.first place)
items_told (Shape.List element) section place _ spells = absurd spells
items_told (Shape.Set element) section place (Row.Set ordinals) spells =
    ap bucket_count (ap length spells.1 ∙ length-map spells.0 (λ pair. pair.0) ∙ sym spells.2.sized)
items_told (Shape.Set element) section place _ spells = absurd spells.1
items_told (Shape.Map key value) section place (Row.Map entries) spells = ap bucket_count (ap length spells.1 ∙ sym spells.2.sized)
items_told (Shape.Map key value) section place _ spells = absurd spells.1

-- It fits behind others where the pointer holds its end.
pub run_fits : (shape : Shape) (section : Section) (place : ℕ) (row : Row) (lengths : List ℕ) (items : ℕ) → HasRuns shape → Spells shape section place row
    → items + items_at shape section place < 2 ^ slice_index section.widths 0 → FitsBehind shape section.widths lengths items row
run_fits (Shape.Object key fields) section place row lengths items runs spells low = absurd runs
run_fits (Shape.List element) section place (Row.List ordinals) lengths items runs spells low = record {
  pointer = omega (arith, low, items_told (Shape.List element) section place (Row.List ordinals) spells);
  elements = subst (All (λ ordinal. ordinal < 2 ^ lists.element_width section.widths)) (sym spells.are)
      (elements_low section.second (lists.element_width section.widths) (range_with_len (lists.start_at section.widths section.first place) (lists.end_at section.widths section.first place - lists.start_at section.widths section.first place)));
}
run_fits (Shape.List element) section place _ lengths items runs spells low = absurd spells
run_fits (Shape.Set element) section place (Row.Set ordinals) lengths items runs spells low = record {
  pointer = omega (arith, low, items_told (Shape.Set element) section place (Row.Set ordinals) spells);
  size = omega (arith, ap length spells.1, length-map spells.0 (λ pair. pair.0), spells.2.sized, size_low section place);
  elements = subst (All (λ ordinal. IsBelowOnes (buckets.key_width section.widths) ordinal)) (sym spells.1)
      (keys_low (buckets.key_width section.widths) (buckets.value_width section.widths) spells.0 (pairs_low section place spells.0 spells.2));
}
  where
    size_low : (section : Section) (place : ℕ) → buckets.size_at section.widths section.first place < 2 ^ buckets.size_width section.widths
    size_low section place = element_of-lt section.first (place * buckets.place_width section.widths + buckets.pointer_width section.widths) (buckets.size_width section.widths)
run_fits (Shape.Set element) section place _ lengths items runs spells low = absurd spells.1
run_fits (Shape.Map key value) section place (Row.Map entries) lengths items runs spells low = record {
  pointer = omega (arith, low, items_told (Shape.Map key value) section place (Row.Map entries) spells);
  size = omega (arith, ap length spells.1, spells.2.sized, size_low section place);
  parts = subst (All (IsInWidths (buckets.key_width section.widths) (buckets.value_width section.widths))) (sym spells.1) (pairs_low section place spells.0 spells.2);
}
  where
    size_low : (section : Section) (place : ℕ) → buckets.size_at section.widths section.first place < 2 ^ buckets.size_width section.widths
    size_low section place = element_of-lt section.first (place * buckets.place_width section.widths + buckets.pointer_width section.widths) (buckets.size_width section.widths)
run_fits (Shape.Map key value) section place _ lengths items runs spells low = absurd spells.1

-- Where it fits, the pointer holds its end.
pub end_held : (shape : Shape) (section : Section) (place : ℕ) (row : Row) (lengths : List ℕ) (items : ℕ) → HasRuns shape → Spells shape section place row
    → FitsBehind shape section.widths lengths items row → items + items_at shape section place < 2 ^ slice_index section.widths 0
end_held (Shape.Object key fields) section place row lengths items runs spells fits = absurd runs
end_held (Shape.List element) section place (Row.List ordinals) lengths items runs spells fits = omega (arith, fits.pointer, items_told (Shape.List element) section place (Row.List ordinals) spells)
end_held (Shape.List element) section place _ lengths items runs spells fits = absurd spells
end_held (Shape.Set element) section place (Row.Set ordinals) lengths items runs spells fits = omega (arith, fits.pointer, items_told (Shape.Set element) section place (Row.Set ordinals) spells)
end_held (Shape.Set element) section place _ lengths items runs spells fits = absurd spells.1
end_held (Shape.Map key value) section place (Row.Map entries) lengths items runs spells fits = omega (arith, fits.pointer, items_told (Shape.Map key value) section place (Row.Map entries) spells)
end_held (Shape.Map key value) section place _ lengths items runs spells fits = absurd spells.1

-- It has no variable bytes.
pub no_bytes : (shape : Shape) (section : Section) (place : ℕ) (row : Row) → HasRuns shape → Spells shape section place row → (row_bytes row ≡ 0) × ((field : ℕ) → part_bytes field row ≡ 0)
no_bytes (Shape.Object key fields) section place row runs spells = absurd runs
no_bytes (Shape.List element) section place (Row.List ordinals) runs spells = (refl, λ field. refl)
no_bytes (Shape.List element) section place _ runs spells = absurd spells
no_bytes (Shape.Set element) section place (Row.Set ordinals) runs spells = (refl, λ field. refl)
no_bytes (Shape.Set element) section place _ runs spells = absurd spells.1
no_bytes (Shape.Map key value) section place (Row.Map entries) runs spells = (refl, λ field. refl)
no_bytes (Shape.Map key value) section place _ runs spells = absurd spells.1
