-- Records that are copied one by one from their half, under rising ordinals.
use Rattle.std.proofs.Common.{◌≡◌, inl, inr, ℕ, zero, suc, ◌+◌, ◌-◌, ◌*◌, ◌^◌, ◌<◌, ◌≤◌, List, [], ◌∷◌, length, get_or, map, Option, Some, refl, sym, ap, ◌∙◌, subst, arith}
use Rattle.std.specs.Prelude.{All, IsSome, replicate, slice_get, slice_index, sum}
use Rattle.std.specs.List.{AllZip, enumerate_from, range_with_len}
use Rattle.std.specs.List.Sorted.{IsStrictlyIncreasing}
use Rattle.std.specs.FinMap.{get}
use Rattle.std.proofs.Math.Nat.{mul-le-mul_right}
use Rattle.std.proofs.lemmas.Bool.{cases_eq, cases_lt}
use Rattle.std.proofs.lemmas.List.{length-map}
use Rattle.std.proofs.lemmas.List.FromFn.{length-map-range_with_len}
use Rattle.std.proofs.lemmas.Option.{get_or_from_slice_get, slice_get_within}
use Rattle.bit_array.specs.Element.{words_of}
use Rattle.schema_model.specs.Parts.{shape_fields}
use Rattle.schema_model.specs.declared.schema.Field.{Field}
use Rattle.schema_model.specs.declared.schema.Shape.{Shape}
use Rattle.row_model.specs.Table.{RowMap}
use Rattle.row_model.specs.declared.row.Row.{Row}
use Rattle.object_codec.specs.ObjectPlace.{IsFieldWidth, SpellsObjectRow}
use Rattle.object_codec.specs.Packing.{CanPack, HasRoom, IsPacked as ArePacked, IsRowPut, IsWidthFor, values_of_place}
use Rattle.object_codec.specs.Stored.{column, value_at, values_bytes}
use Rattle.object_codec.proofs.ByteCounts.{byte_count-append}
use Rattle.object_codec.proofs.PlacesPacked.{PackedSoFar, bits_small, packed_all, packed_more, packed_none, place_room}
use Rattle.packed_half.specs.declared.half.HalfShape.{HalfShape}
use Rattle.packed_half.specs.Laying.{places_in}
use Rattle.packed_half.proofs.PlacedRecords.{can_pack}
use Rattle.packed_half.proofs.RowPlaces.{placed_in}
use Rattle.type_rows.specs.Layout.{places_of}
use Rattle.type_state.specs.Kept.{IsHalf, IsPacked, half_rows}
use Rattle.type_state.specs.OldRecords.{AreSpelled, CanCopyEach, record_row, record_rows, rows_under}
use Rattle.type_state.proofs.FixedHalves.{packed_by}
use Rattle.type_state.proofs.OldPlaces.{in_range, one_row, row_there, zip_of}

-- ---- ordinals that rise

pub rise_more : (ordinals : List ℕ) (index : ℕ) → ((k : ℕ) → k + 1 < index → slice_index ordinals k < slice_index ordinals (k + 1)) → 1 ≤ index → slice_index ordinals (index - 1) < slice_index ordinals index
    → (k : ℕ) → k + 1 < index + 1 → slice_index ordinals k < slice_index ordinals (k + 1)
rise_more ordinals index before some here k below = elim (cases_lt (k + 1) index) [
  | inl lt ↦ before k lt
  | inr le ↦
      let last : index ≡ k + 1 = omega (arith, le, below) in
      let first : index - 1 ≡ k = omega (arith, last) in
      subst (λ n. slice_index ordinals n < slice_index ordinals (k + 1)) first (subst (λ n. slice_index ordinals (index - 1) < slice_index ordinals n) last here)
]

-- Ordinals that rise, none below the first number, and all below the second.
abbrev RiseIn : ℕ → ℕ → List ℕ → Type 0
RiseIn low top [] = Unit {0}
RiseIn low top (o ∷ os) = (low ≤ o) × (o < top) × RiseIn (o + 1) top os

rise_in : (os : List ℕ) (low top : ℕ) → (0 < length os → low ≤ get_or os 0 0) → IsStrictlyIncreasing os → All (λ o. o < top) os → RiseIn low top os
rise_in [] low top first rise below = tt
rise_in (o ∷ os) low top first rise below = (
  first (omega arith),
  below 0 0 (omega arith),
  rise_in os (o + 1) top (λ some. let next = rise 0 (omega (arith, some)) in omega (arith, next))
      (λ k inside. let same : suc k + 1 ≡ suc (k + 1) = omega arith in subst (λ n. slice_index os k < slice_index (o ∷ os) n) same (rise (suc k) (omega (arith, inside))))
      (λ k d inside. below (suc k) d (omega (arith, inside))),
)

-- ---- their bytes are no more than those of all

module _ (index : ℕ) (g : ℕ → Option Row) where
  abbrev count_of : List ℕ → ℕ
  count_of os = length (values_bytes (column index (map values_of_place (map g os))))

  count_more : (o : ℕ) (os : List ℕ) → count_of (o ∷ os) ≡ length (values_bytes (value_at index (values_of_place (g o)))) + count_of os
  count_more o os = byte_count-append (value_at index (values_of_place (g o))) (column index (map values_of_place (map g os)))

  count_le : (os : List ℕ) (from count : ℕ) → RiseIn from (from + count) os → count_of os ≤ count_of (range_with_len from count)
  count_le [] from count rise = omega arith
  count_le (o ∷ os) from zero rise = absurd (omega (arith, rise.0, rise.1))
  count_le (o ∷ os) from (suc count) rise = elim (cases_eq o from) [
    | inl same ↦
        let top : from + suc count ≡ from + 1 + count = omega arith in
        let rest : RiseIn (from + 1) (from + 1 + count) os = subst (λ n. RiseIn (from + 1) n os) top (subst (λ n. RiseIn (n + 1) (from + suc count) os) same rise.2) in
        let most = count_le os (from + 1) count rest in
        let own = ap (λ n. length (values_bytes (value_at index (values_of_place (g n))))) same in
        omega (arith, most, own, count_more o os, count_more from (range_with_len (from + 1) count))
    | inr other ↦
        let top : from + suc count ≡ from + 1 + count = omega arith in
        let low : from + 1 ≤ o = omega (arith, rise.0, λ (e : o ≡ from). other e) in
        let rest : RiseIn (from + 1) (from + 1 + count) (o ∷ os) = (low, omega (arith, rise.1), subst (λ n. RiseIn (o + 1) n os) top rise.2) in
        let most = count_le (o ∷ os) (from + 1) count rest in
        omega (arith, most, count_more from (range_with_len (from + 1) count))
  ]

-- ---- what can be packed

at_map : {X : Type 0} (f : ℕ → X) (os : List ℕ) (k : ℕ) (y : X) → slice_get (map f os) k ≡ Some y → (k < length os) × (f (get_or os k 0) ≡ y)
at_map f [] k y at = absurd cc
at_map f (o ∷ os) zero y at = (omega arith, (let same : f o ≡ y = cc in same))
at_map f (o ∷ os) (suc k) y at = let rest = at_map f os k y at in (omega (arith, rest.0), rest.1)

wide_for : (rows : List (Option Row)) (field : Field) (width : ℕ) → IsFieldWidth field width → IsWidthFor rows field width
wide_for [] field width is = is.0
wide_for (row ∷ rows) field width is = is

zip_map : (P Q : Field → ℕ → Type 0) (fields : List Field) (widths : List ℕ) → ((f : Field) (w : ℕ) → P f w → Q f w) → AllZip P fields widths → AllZip Q fields widths
zip_map P Q [] [] each all = tt
zip_map P Q (f ∷ fields) (w ∷ widths) each all = (each f w all.0, zip_map P Q fields widths each all.1)
zip_map P Q [] (w ∷ widths) each all = absurd all
zip_map P Q (f ∷ fields) [] each all = absurd all

some_wide : (rows : List (Option Row)) (fields : List Field) (widths : List ℕ) → 0 < length rows → AllZip (IsWidthFor rows) fields widths → AllZip IsFieldWidth fields widths
some_wide [] fields widths some wide = absurd (omega (arith, some))
some_wide (row ∷ rows) fields widths some wide = wide

module _ (shape : Shape) (half : HalfShape) (words ordinals : List ℕ) (kept : IsHalf shape half words) (can : CanCopyEach shape half ordinals) (live : All (λ o. IsSome (get (half_rows shape half words) o)) ordinals) where
  packed : IsPacked shape half words
  packed = packed_by shape half words kept can.places

  abbrev rows : RowMap
  rows = half_rows shape half words

  abbrev count : ℕ
  count = places_of half.max

  all_can : CanPack shape half.widths (places_in rows count)
  all_can = can_pack shape half rows can.object packed.can

  below : All (λ o. o < count) ordinals
  below k d inside = let row = row_there (get rows (get_or ordinals k d)) (live k d inside) in placed_in rows count (get_or ordinals k d) row.0 packed.can.held.places row.1

  in_all : (k : ℕ) → k < length ordinals → slice_get (places_in rows count) (get_or ordinals k 0) ≡ Some (get rows (get_or ordinals k 0))
  in_all k inside = in_range (get rows) count (get_or ordinals k 0) (below k 0 inside)

  fields_wide : AllZip IsFieldWidth (shape_fields shape) half.widths
  fields_wide =
      let long = length-map-range_with_len (get rows) 0 count in
      let some = below 0 0 can.some in
      some_wide (places_in rows count) (shape_fields shape) half.widths (omega (arith, long, some)) all_can.wide

  pub each_can : CanPack shape half.widths (rows_under rows ordinals)
  each_can = record {
    object = can.object;
    few = all_can.few;
    wide = zip_map IsFieldWidth (IsWidthFor (rows_under rows ordinals)) (shape_fields shape) half.widths (wide_for (rows_under rows ordinals)) fields_wide;
    places = (let long = length-map ordinals (get rows) in let few = can.few in omega (arith, long, few));
    fit = λ place row at. (let there = at_map (get rows) ordinals place (Some row) at in packed.can.fits (get_or ordinals place 0) row there.1);
    numbers = λ place index row at. (let there = at_map (get rows) ordinals place row at in all_can.numbers (get_or ordinals place 0) index row (in_all place there.0 ∙ ap Some there.1));
    ends = λ index field at has.
        (let most = count_le index (get rows) ordinals 0 count (subst (λ n. RiseIn 0 n ordinals) (let none : count ≡ 0 + count = omega arith in none) (rise_in ordinals 0 count (λ some. omega arith) can.rises below)) in
        let all = all_can.ends index field at has in
        omega (arith, most, all));
  }

  pub copies_begun : (given : Shape) (first : List ℕ) (areas : List (List ℕ)) → shape ≡ given → first ≡ replicate (words_of (length ordinals * sum half.widths)) 0 → areas ≡ replicate (length (shape_fields given)) []
      → PackedSoFar given half.widths (rows_under rows ordinals) first areas 0
  copies_begun given first areas same zeros none =
      subst (λ (s : Shape). areas ≡ replicate (length (shape_fields s)) [] → PackedSoFar s half.widths (rows_under rows ordinals) first areas 0) same
      (λ none. packed_none shape half.widths (rows_under rows ordinals) first areas each_can (subst (λ n. first ≡ replicate (words_of (n * sum half.widths)) 0) (sym (length-map ordinals (get rows))) zeros) none) none

  -- The row of a place is the one under its ordinal.
  place_is : (place ordinal : ℕ) → ordinal ≡ get_or ordinals place 0 → place < length ordinals → get rows ordinal ≡ get_or (rows_under rows ordinals) place (get rows ordinal)
  place_is place ordinal is inside = mapped ordinals place ordinal is inside
    where
      mapped : (os : List ℕ) (k o : ℕ) → o ≡ get_or os k 0 → k < length os → get rows o ≡ get_or (map (get rows) os) k (get rows o)
      mapped [] k o is inside = absurd (omega (arith, inside))
      mapped (p ∷ os) zero o is inside = ap (get rows) is
      mapped (p ∷ os) (suc k) o is inside = mapped os k o is (omega (arith, inside))

  pub copy_room : (given : Shape) (widths first : List ℕ) (areas : List (List ℕ)) (place to ordinal : ℕ) → shape ≡ given → widths ≡ half.widths → to ≡ place → PackedSoFar given half.widths (rows_under rows ordinals) first areas place → place < length ordinals
      → ordinal ≡ get_or ordinals place 0 → HasRoom given widths first areas to (get rows ordinal)
  copy_room given widths first areas place to ordinal same wide at done inside is =
      let long = length-map ordinals (get rows) in
      subst (λ (ws : List ℕ). HasRoom given ws first areas to (get rows ordinal)) (sym wide)
      (subst (λ n. HasRoom given half.widths first areas n (get rows ordinal)) (sym at)
      (place_room given half.widths (rows_under rows ordinals) first areas place (get rows ordinal) (subst (λ (s : Shape). CanPack s half.widths (rows_under rows ordinals)) same each_can) done (omega (arith, long, inside)) (place_is place ordinal is inside)))

  pub copied_one : (given : Shape) (widths first new : List ℕ) (areas bytes : List (List ℕ)) (place to ordinal : ℕ) → widths ≡ half.widths → to ≡ place → PackedSoFar given half.widths (rows_under rows ordinals) first areas place → place < length ordinals
      → ordinal ≡ get_or ordinals place 0 → IsRowPut given widths first areas new bytes to (get rows ordinal) → length new ≡ length first → PackedSoFar given half.widths (rows_under rows ordinals) new bytes (place + 1)
  copied_one given widths first new areas bytes place to ordinal wide at done inside is put long =
      let many = length-map ordinals (get rows) in
      packed_more given half.widths (rows_under rows ordinals) first new areas bytes place (get rows ordinal) done (omega (arith, many, inside)) (place_is place ordinal is inside)
      (subst (λ n. IsRowPut given half.widths first areas new bytes n (get rows ordinal)) at (subst (λ (ws : List ℕ). IsRowPut given ws first areas new bytes to (get rows ordinal)) wide put)) long

  pub copies_done : (given : Shape) (first : List ℕ) (areas : List (List ℕ)) (place : ℕ) → shape ≡ given → PackedSoFar given half.widths (rows_under rows ordinals) first areas place → place ≡ length ordinals → ArePacked given half.widths (rows_under rows ordinals) first areas
  copies_done given first areas place same done over =
      packed_all given half.widths (rows_under rows ordinals) first areas place (subst (λ (s : Shape). CanPack s half.widths (rows_under rows ordinals)) same each_can) done (over ∙ sym (length-map ordinals (get rows)))

  pub copies_small : (sum half.widths < 2 ^ 64) × (length ordinals * sum half.widths < 2 ^ 64)
  copies_small =
      let small = bits_small shape half.widths (rows_under rows ordinals) each_can in
      let long = length-map ordinals (get rows) in
      (small.0, subst (λ n. n * sum half.widths < 2 ^ 64) long small.1)

  -- ---- what is packed spells the rows

  fields_counted : (n : ℕ) (fields : List Field) → length (map (λ part. values_bytes (column part.0 (map values_of_place (rows_under rows ordinals)))) (enumerate_from n fields)) ≡ length fields
  fields_counted n [] = refl
  fields_counted n (field ∷ fields) = ap (λ m. suc m) (fields_counted (n + 1) fields)

  module _ (first : List ℕ) (areas : List (List ℕ)) (are : ArePacked shape half.widths (rows_under rows ordinals) first areas) where
    row_of : (place : ℕ) → place < length ordinals → (r : Row) × (get rows (get_or ordinals place 0) ≡ Some r)
    row_of place inside = row_there (get rows (get_or ordinals place 0)) (live place 0 inside)

    under : (os : List ℕ) (k : ℕ) → k < length os → slice_get (map (get rows) os) k ≡ Some (get rows (get_or os k 0))
    under [] k inside = absurd (omega (arith, inside))
    under (o ∷ os) zero inside = refl
    under (o ∷ os) (suc k) inside = under os k (omega (arith, inside))

    spells_at : (place : ℕ) (row : Row) → place < length ordinals → get rows (get_or ordinals place 0) ≡ Some row → SpellsObjectRow shape half.widths first areas place row
    spells_at place row inside at =
        subst (λ (r : Row). SpellsObjectRow shape half.widths first areas place r) (packed.can.stored (get_or ordinals place 0) row at) (are.spelled place (Some row) (under ordinals place inside ∙ ap Some at))

    spelled : AreSpelled shape half.widths first areas (length ordinals)
    spelled = record {
      object = can.object;
      holds = λ place inside.
          (let many = length-map ordinals (get rows) in
          let words_are = are.words in
          let bits : length (rows_under rows ordinals) * sum half.widths ≡ length ordinals * sum half.widths = ap (λ n. n * sum half.widths) many in
          let less : (place + 1) * sum half.widths ≤ length ordinals * sum half.widths = mul-le-mul_right (sum half.widths) (omega (arith, inside)) in
          let few = can.few in
          record {
            few = all_can.few;
            wide = fields_wide;
            filled = ap (λ (a : List (List ℕ)). length a) are.bytes ∙ fields_counted 0 (shape_fields shape);
            within = omega (arith, less, bits, words_are);
            below = omega (arith, inside, few);
          });
      spelled = λ place inside.
          (let row = row_of place inside in
          let spells = spells_at place row.0 inside row.1 in
          subst (SpellsObjectRow shape half.widths first areas place) (sym (one_row shape half.widths first areas place row.0 can.object spells)) spells);
    }

    rows_are : AllZip (λ ordinal row. get rows ordinal ≡ Some row) ordinals (record_rows shape half.widths first areas (length ordinals))
    rows_are =
        zip_of (λ ordinal row. get rows ordinal ≡ Some row) ordinals (record_rows shape half.widths first areas (length ordinals)) (length-map-range_with_len (record_row shape half.widths first areas) 0 (length ordinals))
        (λ k ordinal row at is.
        let inside = slice_get_within ordinals k ordinal at in
        let there = row_of k inside in
        let same : get_or ordinals k 0 ≡ ordinal = get_or_from_slice_get ordinals k ordinal 0 at in
        let one : Some (record_row shape half.widths first areas k) ≡ Some row = sym (in_range (record_row shape half.widths first areas) (length ordinals) k inside) ∙ is in
        ap (get rows) (sym same) ∙ there.1 ∙ ap Some (sym (one_row shape half.widths first areas k there.0 can.object (spells_at k there.0 inside there.1))) ∙ one)

    pub old_copies : (widths : List ℕ) (copy : Shape) → widths ≡ half.widths → copy ≡ shape
        → AreSpelled copy widths first areas (length ordinals) × AllZip (λ ordinal row. get rows ordinal ≡ Some row) ordinals (record_rows copy widths first areas (length ordinals))
    old_copies widths copy wide alike =
        subst (λ (s : Shape). AreSpelled s widths first areas (length ordinals) × AllZip (λ ordinal row. get rows ordinal ≡ Some row) ordinals (record_rows s widths first areas (length ordinals))) (sym alike)
        (subst (λ (ws : List ℕ). AreSpelled shape ws first areas (length ordinals) × AllZip (λ ordinal row. get rows ordinal ≡ Some row) ordinals (record_rows shape ws first areas (length ordinals))) (sym wide) (spelled, rows_are))
