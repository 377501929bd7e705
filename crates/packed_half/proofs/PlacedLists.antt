-- Lemmas on lists that are laid out: the widths hold those of all places, and what is packed of them are the rows of the half.
use Rattle.std.proofs.Common.{◌≡◌, ℕ, ◌+◌, ◌*◌, ◌^◌, ◌<◌, ◌≤◌, List, [], ◌∷◌, ◌++◌, length, Option, Some, None, refl, sym, ap, ◌∙◌, subst, arith}
use Rattle.std.specs.Prelude.{All, flat_map, replicate}
use Rattle.std.specs.Option.{option_to_list}
use Rattle.std.specs.FinMap.{get, values}
use Rattle.std.proofs.lemmas.List.Concat.{length-flat_map}
use Rattle.std.proofs.lemmas.List.{drop_all, length-replicate}
use Rattle.bit_array.specs.Element.{words_of, number_of}
use Rattle.schema_model.specs.declared.schema.Shape.{Shape}
use Rattle.row_model.specs.declared.row.Row.{Row}
use Rattle.row_model.specs.Row.{FitsShape}
use Rattle.row_model.specs.Table.{RowMap}
use Rattle.list_codec.specs.ListPlace.{pointer_width, element_width, end_at, SpellsList, SpellsListRow}
use Rattle.list_codec.specs.Packing.{CanPack, HasRoom, IsPacked, SpellsPlace, WordsOf, elements_of_place, elements_of_places}
use Rattle.list_codec.specs.Widths.{elements_of_row}
use Rattle.list_codec.proofs.Places.{PackedSoFar, packed_none, pack_room, packed_more, packed}
use Rattle.type_rows.specs.Holds.{FitsRow, HoldsRow}
use Rattle.type_rows.specs.Layout.{places_of, place_bits, item_bits, items_of_row, item_count}
use Rattle.packed_half.specs.declared.half.HalfShape.{HalfShape}
use Rattle.packed_half.specs.LaidOut.{IsTight}
use Rattle.packed_half.specs.Laying.{CanLay, ArePlaced, places_in, parts_in}
use Rattle.packed_half.proofs.Holding.{each_held, all_held, none_below}
use Rattle.packed_half.proofs.RowPlaces.{all_joined, all_values, place_at, place_is, place_or, placed_in, places_long, values_places, sum_where}

-- ---- the bits of a place and of an element

pub list_bits : (element : List ℕ) (widths : List ℕ) → length widths ≡ 2 → (place_bits (Shape.List element) widths ≡ pointer_width widths) × (item_bits (Shape.List element) widths ≡ element_width widths)
list_bits element [] two = absurd (omega arith)
list_bits element (pointer ∷ []) two = absurd (omega arith)
list_bits element (pointer ∷ width ∷ rest) two = (refl, refl)

-- ---- the elements of all places

elements_joined : (places : List (Option Row)) → elements_of_places places ≡ flat_map elements_of_row (flat_map option_to_list places)
elements_joined [] = refl
elements_joined (None ∷ places) = elements_joined places
elements_joined (Some row ∷ places) = ap (λ (rest : List ℕ). elements_of_row row ++ rest) (elements_joined places)

items_are : (element : List ℕ) (row : Row) → FitsShape (Shape.List element) row → length (elements_of_row row) ≡ items_of_row row
items_are element (Row.List ordinals) fits = refl
items_are element (Row.Object values) fits = absurd fits
items_are element (Row.Set ordinals) fits = absurd fits
items_are element (Row.Map pairs) fits = absurd fits

pointer_holds : (element : List ℕ) (widths : List ℕ) (rows : List Row) (row : Row) → FitsShape (Shape.List element) row → HoldsRow (Shape.List element) widths rows row → item_count rows < 2 ^ pointer_width widths
pointer_holds element widths rows (Row.List ordinals) fits held = held.pointer
pointer_holds element widths rows (Row.Object values) fits held = absurd fits
pointer_holds element widths rows (Row.Set ordinals) fits held = absurd fits
pointer_holds element widths rows (Row.Map pairs) fits held = absurd fits

elements_hold : (element : List ℕ) (widths : List ℕ) (ends : ℕ → ℕ) (items : ℕ) (row : Row) → FitsRow (Shape.List element) widths ends items row → All (λ e. e < 2 ^ element_width widths) (elements_of_row row)
elements_hold element widths ends items (Row.List ordinals) held = held.elements
elements_hold element widths ends items (Row.Object values) held = absurd held
elements_hold element widths ends items (Row.Set ordinals) held = absurd held
elements_hold element widths ends items (Row.Map pairs) held = absurd held

module _ (element : List ℕ) (half : HalfShape) (rows : RowMap) (can : CanLay (Shape.List element) half rows) where
  pub elements_are : elements_of_places (places_in rows (places_of half.max)) ≡ flat_map elements_of_row (values rows)
  elements_are =
      elements_joined (places_in rows (places_of half.max))
      ∙ ap (λ (rs : List Row). flat_map elements_of_row rs) (sym (values_places rows (places_of half.max) can.held.places))

  pub count_is : length (elements_of_places (places_in rows (places_of half.max))) ≡ half.total
  count_is =
      ap (λ (es : List ℕ). length es) elements_are
      ∙ length-flat_map elements_of_row (values rows)
      ∙ sum_where (FitsShape (Shape.List element)) (λ row. length (elements_of_row row)) items_of_row (values rows) (items_are element) (all_values (FitsShape (Shape.List element)) rows can.fits)
      ∙ sym can.total

  pub list_can : CanPack (Shape.List element) half.widths (places_in rows (places_of half.max))
  list_can = record {
    list = tt;
    fit = λ place row at. can.fits place row (sym (place_is rows (places_of half.max) place (Some row) at));
    two = can.wide.0;
    narrow = can.wide.1;
    below = subst (λ (n : ℕ). n < 2 ^ pointer_width half.widths) (sym can.total ∙ sym count_is)
        (all_held (Shape.List element) half.widths (FitsShape (Shape.List element)) (λ rs. item_count rs < 2 ^ pointer_width half.widths) (pointer_holds element half.widths) [] (values rows)
        (none_below (pointer_width half.widths)) (all_values (FitsShape (Shape.List element)) rows can.fits) can.held.parts);
    small = subst (All (λ e. e < 2 ^ element_width half.widths)) (sym elements_are)
        (all_joined (λ e. e < 2 ^ element_width half.widths) elements_of_row (values rows)
        (each_held (Shape.List element) half.widths (λ row. All (λ e. e < 2 ^ element_width half.widths) (elements_of_row row)) (elements_hold element half.widths) [] (values rows) can.held.parts));
  }

  -- what is packed of all places are the rows of the half
  pub lists_placed : (first second : List ℕ) (areas : List (List ℕ)) → IsPacked half.widths (places_in rows (places_of half.max)) first second → ArePlaced (Shape.List element) half rows first second areas
  lists_placed first second areas packed =
      record {
        spelled = λ ordinal row found.
            let inside : ordinal < places_of half.max = inside_of ordinal row found in
            let at = place_at rows (places_of half.max) ordinal inside ∙ ap Some found in
            subst (λ (n : ℕ). SpellsListRow half.widths n first second ordinal row) count_is (packed.spelled ordinal (Some row) at);
        tight = λ place inside. tight_at place (get rows place) (packed.spelled place (get rows place) (place_at rows (places_of half.max) place inside));
      }
    where
      inside_of : (ordinal : ℕ) (row : Row) → get rows ordinal ≡ Some row → ordinal < places_of half.max
      inside_of ordinal row found = placed_in rows (places_of half.max) ordinal row can.held.places found

      tight_at : (place : ℕ) (row : Option Row) → SpellsPlace half.widths (length (elements_of_places (places_in rows (places_of half.max)))) first second place row
          → IsTight (Shape.List element) (parts_in half first second areas) place row
      tight_at place None h = h
      tight_at place (Some row) h = tt

  -- ---- the places one after the other

  zeros_few : (first second : List ℕ) → first ≡ replicate (words_of (places_of half.max * pointer_width half.widths)) 0 → second ≡ replicate (words_of (half.total * element_width half.widths)) 0
      → length first + length second < 2 ^ 58
  zeros_few first second zeros second_zeros =
      let bits = list_bits element half.widths can.wide.0 in
      let long = ap (λ (ws : List ℕ). length ws) zeros ∙ length-replicate (words_of (places_of half.max * pointer_width half.widths)) 0 in
      let second_long = ap (λ (ws : List ℕ). length ws) second_zeros ∙ length-replicate (words_of (half.total * element_width half.widths)) 0 in
      let here = ap (λ (n : ℕ). words_of (places_of half.max * n)) bits.0 in
      let there = ap (λ (n : ℕ). words_of (half.total * n)) bits.1 in
      omega (arith, can.room, long, second_long, here, there)

  pub lists_begun : (first second : List ℕ) → first ≡ replicate (words_of (places_of half.max * pointer_width half.widths)) 0 → second ≡ replicate (words_of (half.total * element_width half.widths)) 0
      → PackedSoFar half.widths (places_in rows (places_of half.max)) first second 0 0
  lists_begun first second zeros second_zeros =
      let few = zeros_few first second zeros second_zeros in
      let long = ap (λ (ws : List ℕ). length ws) zeros ∙ length-replicate (words_of (places_of half.max * pointer_width half.widths)) 0 in
      let second_long = ap (λ (ws : List ℕ). length ws) second_zeros ∙ length-replicate (words_of (half.total * element_width half.widths)) 0 in
      packed_none half.widths (places_in rows (places_of half.max)) first second (places_of half.max) (pointer_width half.widths) half.total (element_width half.widths)
      (sym (places_long rows (places_of half.max))) refl (sym count_is) refl long second_long
      (subst (λ (n : ℕ). first ≡ replicate n 0) (sym long) zeros) (subst (λ (n : ℕ). second ≡ replicate n 0) (sym second_long) second_zeros)
      (omega arith) (omega arith) list_can.small

  pub list_room : (first second : List ℕ) (place end : ℕ) (row : Option Row) (elements : List ℕ) → PackedSoFar half.widths (places_in rows (places_of half.max)) first second place end → place < places_of half.max
      → row ≡ get rows place → elements ≡ elements_of_place row → HasRoom half.widths first second place end elements
  list_room first second place end row elements done inside is are =
      pack_room half.widths (places_in rows (places_of half.max)) first second place end row elements done (let long = places_long rows (places_of half.max) in omega arith)
      (is ∙ place_or rows (places_of half.max) place None inside) are can.wide.0 can.wide.1 list_can.below

  pub list_more : (first second first' second' : List ℕ) (place end end' : ℕ) (row : Option Row) (elements : List ℕ) → PackedSoFar half.widths (places_in rows (places_of half.max)) first second place end
      → place < places_of half.max → row ≡ get rows place → elements ≡ elements_of_place row → end' ≡ end + length elements → SpellsList half.widths end' first' second' place elements
      → ((before total : ℕ) (list : List ℕ) → before < place → total ≤ end → SpellsList half.widths total first second before list → SpellsList half.widths total first' second' before list)
      → (number_of first < 2 ^ (place * pointer_width half.widths) → number_of first' < 2 ^ ((place + 1) * pointer_width half.widths))
      → (number_of second < 2 ^ (end * element_width half.widths) → number_of second' < 2 ^ (end' * element_width half.widths))
      → end_at half.widths first' place ≡ end' → length first' ≡ length first → length second' ≡ length second → PackedSoFar half.widths (places_in rows (places_of half.max)) first' second' (place + 1) end'
  list_more first second first' second' place end end' row elements done inside is are is_end spelled earlier bits second_bits there long second_long =
      packed_more half.widths (places_in rows (places_of half.max)) first second first' second' place end end' row elements done (let all = places_long rows (places_of half.max) in omega arith)
      (is ∙ place_or rows (places_of half.max) place None inside) are is_end spelled earlier bits second_bits there long second_long

  pub lists_done : (first second : List ℕ) (place end : ℕ) → PackedSoFar half.widths (places_in rows (places_of half.max)) first second place end → place ≡ places_of half.max
      → IsPacked half.widths (places_in rows (places_of half.max)) first second
  lists_done first second place end done all =
      let long = places_long rows (places_of half.max) in
      let none = ap (λ (es : List (Option Row)). length (elements_of_places es)) (drop_all place (places_in rows (places_of half.max)) (omega arith)) in
      let counted = done.counted in
      let total : end ≡ length (elements_of_places (places_in rows (places_of half.max))) = omega (arith, counted, none) in
      packed (Shape.List element) half.widths (places_in rows (places_of half.max)) first second list_can
      (subst (λ (n : ℕ). WordsOf half.widths (places_in rows (places_of half.max)) first second n (length (elements_of_places (places_in rows (places_of half.max))))) (all ∙ sym long)
      (subst (λ (n : ℕ). WordsOf half.widths (places_in rows (places_of half.max)) first second place n) total done.words))
