-- Lemmas on the lists of places: the widths that are chosen over two states hold them.
use Rattle.std.proofs.Common.{◌≡◌, ℕ, ◌^◌, ◌<◌, ◌≤◌, max, List, [], ◌∷◌, length, Option, Some, None, refl, arith}
use Rattle.std.specs.Prelude.{All, IfSome}
use Rattle.std.proofs.lemmas.List.Concat.{length-flat_map}
use Rattle.std.proofs.lemmas.List.Elements.{All-cons, All-head, All-tail}
use Rattle.bit_array.specs.Digits.{digit_count}
use Rattle.row_model.specs.declared.row.Row.{Row}
use Rattle.schema_model.specs.declared.schema.Shape.{Shape}
use Rattle.row_model.specs.Table.{Table}
use Rattle.row_model.specs.BothStates.{rows_of_both}
use Rattle.list_codec.specs.Packing.{CanPack, elements_of_place, elements_of_places}
use Rattle.list_codec.specs.Widths.{elements_of_row, elements_of_both, greatest, widths_for}
use Rattle.row_packing.specs.Chosen.{IsRowOf}
use Rattle.row_packing.specs.Places.{places_under, Agree}
use Rattle.row_packing.proofs.Greatest.{all_none, all_gives, all_parts, all_joined, sum_same, width_holds, width_narrow}
use Rattle.row_packing.proofs.RowsUnder.{at_place, RiseFrom, sum_both, all_places, at_place_of}

-- no number is above the greatest
pub greatest_each : (numbers : List ℕ) → All (λ number. number ≤ greatest numbers) numbers
unfolding greatest
greatest_each [] = all_none (λ number. number ≤ 0)
greatest_each (number ∷ rest) =
    All-cons (λ n. n ≤ max number (greatest rest)) number rest (omega arith)
    (all_gives (λ n. n ≤ greatest rest) (λ n. n ≤ max number (greatest rest)) rest (λ n le. omega arith) (greatest_each rest))

pub greatest_less : (limit : ℕ) (numbers : List ℕ) → 0 < limit → All (λ number. number < limit) numbers → greatest numbers < limit
unfolding greatest
greatest_less limit [] some all = some
greatest_less limit (number ∷ rest) some all =
    omega (arith, All-head (λ n. n < limit) number rest all, greatest_less limit rest some (All-tail (λ n. n < limit) number rest all))

in_range : (element : List ℕ) (row : Row) → IsRowOf (Shape.List element) row → All (λ ordinal. ordinal < 2 ^ 32) (elements_of_row row)
in_range element (Row.List ordinals) is = is.1
in_range element (Row.Object values) is = absurd is.0
in_range element (Row.Set ordinals) is = absurd is.0
in_range element (Row.Map pairs) is = absurd is.0

count_of_place : (row : Option Row) → length (elements_of_place row) ≡ at_place (λ r. length (elements_of_row r)) row
count_of_place None = refl
count_of_place (Some row) = refl

all_of_place : (P : ℕ → Type 0) (row : Option Row) → IfSome row (λ r. All P (elements_of_row r)) → All P (elements_of_place row)
all_of_place P None all = all_none P
all_of_place P (Some row) all = all

-- what is chosen for the elements of both states
pub record AreElements (element : List ℕ) (old new : Table) (type_index : ℕ) : Type 0 where
  pub agree : Agree old new type_index
  pub rows : All (IsRowOf (Shape.List element)) (rows_of_both old new type_index)
  pub few : length (elements_of_both old new type_index) ≤ 2 ^ 25

module _ (element : List ℕ) (old new : Table) (type_index : ℕ) (are : AreElements element old new type_index) where
  pub small_elements : greatest (elements_of_both old new type_index) < 2 ^ 32
  small_elements =
      greatest_less (2 ^ 32) (elements_of_both old new type_index) (omega arith)
      (all_joined (λ ordinal. ordinal < 2 ^ 32) elements_of_row (rows_of_both old new type_index)
      (all_gives (IsRowOf (Shape.List element)) (λ row. All (λ ordinal. ordinal < 2 ^ 32) (elements_of_row row)) (rows_of_both old new type_index) (in_range element) are.rows))

  pub narrow_list : All (λ width. width ≤ 64) (widths_for (elements_of_both old new type_index))
  narrow_list =
      let width = max 1 (digit_count (greatest (elements_of_both old new type_index))) in
      All-cons (λ width. width ≤ 64) (max 1 (digit_count (length (elements_of_both old new type_index)))) (width ∷ []) (width_narrow (length (elements_of_both old new type_index)) (omega (arith, are.few)))
      (All-cons (λ width. width ≤ 64) width [] (width_narrow (greatest (elements_of_both old new type_index)) (omega (arith, small_elements))) (all_none (λ width. width ≤ 64)))

  pub count_places : (ordinals : List ℕ) → RiseFrom 0 ordinals → length (elements_of_places (places_under new type_index ordinals)) ≤ length (elements_of_both old new type_index)
  count_places ordinals rise =
      let places = places_under new type_index ordinals in
      let one = length-flat_map elements_of_place places in
      let two = sum_same (λ row. length (elements_of_place row)) (at_place (λ r. length (elements_of_row r))) places count_of_place in
      let three = length-flat_map elements_of_row (rows_of_both old new type_index) in
      omega (arith, one, two, three, sum_both old new type_index are.agree (λ r. length (elements_of_row r)) ordinals rise)

  pub list_can : (ordinals : List ℕ) → RiseFrom 0 ordinals → CanPack (Shape.List element) (widths_for (elements_of_both old new type_index)) (places_under new type_index ordinals)
  list_can ordinals rise =
      let rows = rows_of_both old new type_index in
      let places = places_under new type_index ordinals in
      let most = greatest (elements_of_both old new type_index) in
      let fit = all_places old new type_index are.agree (IsRowOf (Shape.List element)) ordinals are.rows in
      let each = all_places old new type_index are.agree (λ row. All (λ n. n ≤ most) (elements_of_row row)) ordinals (all_parts (λ n. n ≤ most) elements_of_row rows (greatest_each (elements_of_both old new type_index))) in
      record {
        list = tt;
        fit = λ place row at. (at_place_of (IsRowOf (Shape.List element)) places fit place row at).0;
        two = refl;
        narrow = narrow_list;
        below = width_holds (length (elements_of_both old new type_index)) (length (elements_of_places places)) (count_places ordinals rise);
        small = all_gives (λ n. n ≤ most) (λ n. n < 2 ^ max 1 (digit_count most)) (elements_of_places places) (λ n le. width_holds most n le)
            (all_joined (λ n. n ≤ most) elements_of_place places
            (all_gives (λ row. IfSome row (λ r. All (λ n. n ≤ most) (elements_of_row r))) (λ row. All (λ n. n ≤ most) (elements_of_place row)) places (all_of_place (λ n. n ≤ most)) each));
      }
