-- Lemmas on two states that agree: the rows of both are the same either way, and so is what is chosen.
use Rattle.std.proofs.Common.{◌≡◌, ℕ, ◌+◌, ◌^◌, ◌<◌, ◌≤◌, max, min, inl, inr, List, [], ◌∷◌, ◌++◌, length, Option, Some, None, refl, sym, ap, ◌∙◌, subst, arith}
use Rattle.std.specs.Prelude.{All, flat_map, fold, is_some, map, sum_by}
use Rattle.std.specs.List.{range_with_len}
use Rattle.std.specs.FinMap.{get}
use Rattle.std.proofs.lemmas.List.Concat.{length-flat_map, flat_map_single}
use Rattle.std.proofs.lemmas.List.Elements.{All-cons, All-head, All-tail}
use Rattle.std.proofs.lemmas.List.Sums.{sum_by-cons, sum_by-append}
use Rattle.bit_array.specs.Digits.{digit_count}
use Rattle.row_model.specs.Table.{Table, row_at}
use Rattle.row_model.specs.declared.row.Row.{Row}
use Rattle.row_model.specs.declared.row.Value.{Value}
use Rattle.schema_model.specs.declared.schema.Field.{Field}
use Rattle.schema_model.specs.declared.schema.FieldKind.{FieldKind}
use Rattle.schema_model.specs.declared.schema.Shape.{Shape}
use Rattle.row_model.specs.BothStates.{rows_in, rows_added, rows_from, rows_of_both}
use Rattle.row_model.proofs.RowsFrom.{get_in, added_some, added_none, added_live}
use Rattle.object_codec.specs.Stored.{values_of_row, value_at, column}
use Rattle.object_codec.specs.Widths.{value_bits, most_bits, byte_count, width_for, records_of}
use Rattle.row_widths.proofs.RecordSpreads.{widths_from}
use Rattle.type_rows.specs.WordsHeld.{part_bytes}
use Rattle.list_codec.specs.Widths.{elements_of_row, greatest, widths_for as list_widths}
use Rattle.bucket_codec.specs.Packed.{pairs_of}
use Rattle.bucket_codec.specs.Run.{keys_of}
use Rattle.bucket_codec.specs.Widths.{sizes_of, buckets_of_rows, keys_of_rows, values_of, values_of_rows, width_for as bucket_width, set_widths}
use Rattle.row_packing.specs.declared.chosen.Chosen.{Chosen}
use Rattle.row_packing.specs.Chosen.{IsLiveInEither, IsGreatestOrdinal, IsRowOf, chosen_widths, chosen_total, KeepsCounts, IsChosen, Suits}
use Rattle.row_packing.specs.Places.{Agree}
use Rattle.row_packing.proofs.Greatest.{all_none, all_left, all_gives, all_parts, all_joined, below_greatest, greatest_below}
use Rattle.row_packing.proofs.RowBytes.{column_count}
use Rattle.row_packing.proofs.RowsUnder.{at_place, rise_all, sum_under, sum_range, none_there, all_both, each_both, each_in}
use Rattle.row_packing.proofs.ListPlaces.{greatest_each, greatest_less}
use Rattle.row_packing.proofs.BucketPlaces.{row_buckets, buckets_sum}

pub agree_back : (old new : Table) (type_index : ℕ) → Agree old new type_index → Agree new old type_index
agree_back old new type_index agree ordinal a b is was = sym (agree ordinal b a was is)

-- ---- the rows of both, either way

module _ (old new : Table) (type_index : ℕ) (agree : Agree old new type_index) where
  -- what holds of all rows one way holds of all the other way
  pub all_back : (P : Row → Type 0) → All P (rows_of_both old new type_index) → All P (rows_of_both new old type_index)
  all_back P all =
      all_both P new old type_index (λ ordinal row at. each_both old new type_index agree P ordinal row all at)
      (λ ordinal row at. each_in P (rows_in old type_index) ordinal row (all_left P (rows_from 0 (rows_in old type_index)) _ all) (get_in old type_index ordinal ∙ at))

  -- under each ordinal there is the same either way
  place_back : (f : Row → ℕ) (ordinal : ℕ) → at_place f (get (rows_in old type_index) ordinal) + at_place f (get (rows_added old new type_index) ordinal)
      ≤ at_place f (get (rows_in new type_index) ordinal) + at_place f (get (rows_added new old type_index) ordinal)
  place_back f ordinal = by_rows (row_at old type_index ordinal) refl (row_at new type_index ordinal) refl
    where
      by_rows : (a : Option Row) → row_at old type_index ordinal ≡ a → (b : Option Row) → row_at new type_index ordinal ≡ b
          → at_place f (get (rows_in old type_index) ordinal) + at_place f (get (rows_added old new type_index) ordinal)
          ≤ at_place f (get (rows_in new type_index) ordinal) + at_place f (get (rows_added new old type_index) ordinal)
      by_rows None was None is =
          omega (arith, ap (at_place f) (get_in old type_index ordinal ∙ was), ap (at_place f) (added_none old new type_index ordinal is))
      by_rows None was (Some b) is =
          omega (
            arith,
            ap (at_place f) (get_in old type_index ordinal ∙ was),
            ap (at_place f) (get_in new type_index ordinal ∙ is),
            ap (at_place f) (added_some old new type_index ordinal b (λ live. let none = sym live ∙ ap is_some was in absurd cc) is),
          )
      by_rows (Some a) was None is =
          omega (
            arith,
            ap (at_place f) (get_in old type_index ordinal ∙ was),
            ap (at_place f) (added_none old new type_index ordinal is),
            ap (at_place f) (added_some new old type_index ordinal a (λ live. let none = sym live ∙ ap is_some is in absurd cc) was),
          )
      by_rows (Some a) was (Some b) is =
          omega (
            arith,
            ap (at_place f) (get_in old type_index ordinal ∙ was),
            ap (at_place f) (get_in new type_index ordinal ∙ is),
            ap (at_place f) (added_live old new type_index ordinal (ap is_some was)),
            ap f (agree ordinal a b was is),
          )

  places_back : (f : Row → ℕ) (ordinals : List ℕ)
      → sum_by (at_place f) (map (get (rows_in old type_index)) ordinals) + sum_by (at_place f) (map (get (rows_added old new type_index)) ordinals)
      ≤ sum_by (at_place f) (map (get (rows_in new type_index)) ordinals) + sum_by (at_place f) (map (get (rows_added new old type_index)) ordinals)
  places_back f [] = omega arith
  places_back f (ordinal ∷ rest) =
      let step = λ (place : ℕ → Option Row). sum_by-cons (at_place f) (place ordinal) (map place rest) in
      omega (arith, step (get (rows_in old type_index)), step (get (rows_added old new type_index)), step (get (rows_in new type_index)), step (get (rows_added new old type_index)), place_back f ordinal, places_back f rest)

  pub sum_back_le : (f : Row → ℕ) (limit : ℕ) → ((ordinal : ℕ) → IsLiveInEither old new type_index ordinal → ordinal < limit)
      → sum_by f (rows_of_both old new type_index) ≤ sum_by f (rows_of_both new old type_index)
  sum_back_le f limit below =
      let dead_old = λ (ordinal : ℕ) (past : limit ≤ ordinal). none_there (row_at old type_index ordinal) (λ row was. let before = below ordinal (inl (ap is_some was)) in omega arith) in
      let dead_new = λ (ordinal : ℕ) (past : limit ≤ ordinal). none_there (row_at new type_index ordinal) (λ row is. let before = below ordinal (inr (ap is_some is)) in omega arith) in
      let first = sum_range f (rows_in old type_index) limit limit 0 (omega arith) (λ ordinal past. get_in old type_index ordinal ∙ dead_old ordinal past) in
      let second = sum_range f (rows_added old new type_index) limit limit 0 (omega arith) (λ ordinal past. added_none old new type_index ordinal (dead_new ordinal past)) in
      let third = sum_under f (rows_in new type_index) 0 (range_with_len 0 limit) (rise_all limit) in
      let fourth = sum_under f (rows_added new old type_index) 0 (range_with_len 0 limit) (rise_all limit) in
      omega (
        arith,
        first,
        second,
        third,
        fourth,
        places_back f (range_with_len 0 limit),
        sum_by-append f (rows_from 0 (rows_in old type_index)) (rows_from 0 (rows_added old new type_index)),
        sum_by-append f (rows_from 0 (rows_in new type_index)) (rows_from 0 (rows_added new old type_index)),
      )

-- ---- what is the same either way

-- two lists of rows have the same rows, as far as widths and totals go
pub record AreSame (a b : List Row) : Type 1 where
  pub sums : (f : Row → ℕ) → sum_by f a ≡ sum_by f b
  pub there : (P : Row → Type 0) → All P a → All P b
  pub back : (P : Row → Type 0) → All P b → All P a

pub same_back : (old new : Table) (type_index : ℕ) → Agree old new type_index → (limit : ℕ) → ((ordinal : ℕ) → IsLiveInEither old new type_index ordinal → ordinal < limit)
    → AreSame (rows_of_both old new type_index) (rows_of_both new old type_index)
same_back old new type_index agree limit below =
    record {
      sums = λ f. omega (arith, sum_back_le old new type_index agree f limit below, sum_back_le new old type_index (agree_back old new type_index agree) f limit (λ ordinal live. below ordinal (turned ordinal live)));
      there = all_back old new type_index agree;
      back = all_back new old type_index (agree_back old new type_index agree);
    }
  where
    turned : (ordinal : ℕ) → IsLiveInEither new old type_index ordinal → IsLiveInEither old new type_index ordinal
    turned ordinal (inl is) = inr is
    turned ordinal (inr was) = inl was

-- the greatest of what rows have
same_greatest : (f : Row → List ℕ) (a b : List Row) → AreSame a b → fold max 0 (flat_map f a) ≡ fold max 0 (flat_map f b)
same_greatest f a b same = omega (arith, one a b same.back, one b a same.there)
  where
    one : (a b : List Row) → ((P : Row → Type 0) → All P b → All P a) → fold max 0 (flat_map f a) ≤ fold max 0 (flat_map f b)
    one a b from =
        let most = fold max 0 (flat_map f b) in
        let below = greatest_below (most + 1) (flat_map f a) (omega arith)
        (all_joined (λ n. n < most + 1) f a
        (from (λ row. All (λ n. n < most + 1) (f row))
        (all_parts (λ n. n < most + 1) f b (all_gives (λ n. n ≤ most) (λ n. n < most + 1) (flat_map f b) (λ n le. omega arith) (below_greatest (flat_map f b)))))) in
        omega (arith, below)

same_length : {X : Type 0} (f : Row → List X) (a b : List Row) → AreSame a b → length (flat_map f a) ≡ length (flat_map f b)
same_length f a b same = length-flat_map f a ∙ same.sums (λ row. length (f row)) ∙ sym (length-flat_map f b)

-- ---- lists

list_most : (a b : List Row) → ((P : Row → Type 0) → All P b → All P a) → greatest (flat_map elements_of_row a) ≤ greatest (flat_map elements_of_row b)
list_most a b from =
    let most = greatest (flat_map elements_of_row b) in
    let below = greatest_less (most + 1) (flat_map elements_of_row a) (omega arith)
    (all_joined (λ n. n < most + 1) elements_of_row a
    (from (λ row. All (λ n. n < most + 1) (elements_of_row row))
    (all_parts (λ n. n < most + 1) elements_of_row b (all_gives (λ n. n ≤ most) (λ n. n < most + 1) (flat_map elements_of_row b) (λ n le. omega arith) (greatest_each (flat_map elements_of_row b)))))) in
    omega (arith, below)

list_same : (a b : List Row) → AreSame a b → list_widths (flat_map elements_of_row a) ≡ list_widths (flat_map elements_of_row b)
list_same a b same =
    let most : greatest (flat_map elements_of_row a) ≡ greatest (flat_map elements_of_row b) = omega (arith, list_most a b same.back, list_most b a same.there) in
    ap (λ n. max 1 (digit_count n) ∷ max 1 (digit_count (greatest (flat_map elements_of_row a))) ∷ []) (same_length elements_of_row a b same)
    ∙ ap (λ n. max 1 (digit_count (length (flat_map elements_of_row b))) ∷ max 1 (digit_count n) ∷ []) most

-- ---- sets and maps

buckets_same : (a b : List Row) → AreSame a b → buckets_of_rows a ≡ buckets_of_rows b
buckets_same a b same = buckets_sum a ∙ same.sums row_buckets ∙ sym (buckets_sum b)

sizes_same : (a b : List Row) → AreSame a b → fold max 0 (sizes_of a) ≡ fold max 0 (sizes_of b)
sizes_same a b same =
    ap (fold max 0) (sym (flat_map_single (λ row. length (pairs_of row)) a)) ∙ same_greatest (λ row. length (pairs_of row) ∷ []) a b same ∙ ap (fold max 0) (flat_map_single (λ row. length (pairs_of row)) b)

set_same : (a b : List Row) → AreSame a b → set_widths a ≡ set_widths b
set_same a b same =
    let keys = same_greatest (λ row. keys_of (pairs_of row)) a b same in
    ap (λ n. bucket_width n ∷ bucket_width (fold max 0 (sizes_of a)) ∷ digit_count (fold max 0 (keys_of_rows a) + 1) ∷ []) (buckets_same a b same)
    ∙ ap (λ n. bucket_width (buckets_of_rows b) ∷ bucket_width n ∷ digit_count (fold max 0 (keys_of_rows a) + 1) ∷ []) (sizes_same a b same)
    ∙ ap (λ n. bucket_width (buckets_of_rows b) ∷ bucket_width (fold max 0 (sizes_of b)) ∷ digit_count (n + 1) ∷ []) keys

map_same : (a b : List Row) → AreSame a b → set_widths a ++ bucket_width (fold max 0 (values_of_rows a)) ∷ [] ≡ set_widths b ++ bucket_width (fold max 0 (values_of_rows b)) ∷ []
map_same a b same =
    ap (λ (ws : List ℕ). ws ++ bucket_width (fold max 0 (values_of_rows a)) ∷ []) (set_same a b same)
    ∙ ap (λ n. set_widths b ++ bucket_width n ∷ []) (same_greatest (λ row. values_of (pairs_of row)) a b same)

-- ---- records

column_rows : (index : ℕ) (rows : List Row) → column index (records_of rows) ≡ flat_map (λ row. value_at index (values_of_row row)) rows
column_rows index [] = refl
column_rows index (row ∷ rows) = ap (λ (vs : List Value). value_at index (values_of_row row) ++ vs) (column_rows index rows)

most_each : (values : List Value) → All (λ value. value_bits value ≤ most_bits values) values
most_each [] = all_none (λ value. value_bits value ≤ 0)
most_each (value ∷ rest) =
    All-cons (λ v. value_bits v ≤ max (value_bits value) (most_bits rest)) value rest (omega arith)
    (all_gives (λ v. value_bits v ≤ most_bits rest) (λ v. value_bits v ≤ max (value_bits value) (most_bits rest)) rest (λ v le. omega arith) (most_each rest))

most_le : (most : ℕ) (values : List Value) → All (λ value. value_bits value ≤ most) values → most_bits values ≤ most
most_le most [] all = omega arith
most_le most (value ∷ rest) all = omega (arith, All-head (λ v. value_bits v ≤ most) value rest all, most_le most rest (All-tail (λ v. value_bits v ≤ most) value rest all))

column_most : (index : ℕ) (a b : List Row) → ((P : Row → Type 0) → All P b → All P a) → most_bits (column index (records_of a)) ≤ most_bits (column index (records_of b))
column_most index a b from =
    let part = λ (row : Row). value_at index (values_of_row row) in
    let most = most_bits (column index (records_of b)) in
    let each = subst (All (λ value. value_bits value ≤ most)) (column_rows index b) (most_each (column index (records_of b))) in
    subst (λ (vs : List Value). most_bits vs ≤ most) (sym (column_rows index a))
    (most_le most (flat_map part a)
    (all_joined (λ value. value_bits value ≤ most) part a (from (λ row. All (λ value. value_bits value ≤ most) (part row)) (all_parts (λ value. value_bits value ≤ most) part b each))))

-- the width of a field goes by what its values take together, and whether there is one
width_same : (kind : FieldKind) (a b : List Value) → length a ≡ length b → most_bits a ≡ most_bits b → byte_count a ≡ byte_count b → width_for kind a ≡ width_for kind b
width_same (FieldKind.Reference name) a b long most bytes = most
width_same FieldKind.Int a b long most bytes = most
width_same FieldKind.Long a b long most bytes = most
width_same FieldKind.Boolean [] [] long most bytes = refl
width_same FieldKind.Boolean [] (y ∷ ys) long most bytes = absurd (omega arith)
width_same FieldKind.Boolean (x ∷ xs) [] long most bytes = absurd (omega arith)
width_same FieldKind.Boolean (x ∷ xs) (y ∷ ys) long most bytes = refl
width_same FieldKind.Text a b long most bytes = ap (λ n. digit_count (n + 1) + 1) bytes
width_same FieldKind.Bytes a b long most bytes = ap (λ n. digit_count (n + 1) + 1) bytes

column_width : (kind : FieldKind) (index : ℕ) (a b : List Row) → AreSame a b → width_for kind (column index (records_of a)) ≡ width_for kind (column index (records_of b))
column_width kind index a b same =
    width_same kind (column index (records_of a)) (column index (records_of b))
    (ap (λ (vs : List Value). length vs) (column_rows index a) ∙ same_length (λ row. value_at index (values_of_row row)) a b same ∙ sym (ap (λ (vs : List Value). length vs) (column_rows index b)))
    (omega (arith, column_most index a b same.back, column_most index b a same.there))
    (column_count index a ∙ same.sums (part_bytes index) ∙ sym (column_count index b))

object_same : (from : ℕ) (fields : List Field) (a b : List Row) → AreSame a b → widths_from from fields a ≡ widths_from from fields b
object_same from [] a b same = refl
object_same from (field ∷ fields) a b same =
    ap (λ (w : ℕ). w ∷ widths_from (from + 1) fields a) (column_width field.kind from a b same)
    ∙ ap (λ (ws : List ℕ). width_for field.kind (column from (records_of b)) ∷ ws) (object_same (from + 1) fields a b same)

-- ---- what is chosen

widths_same : (shape : Shape) (a b : List Row) → AreSame a b → chosen_widths shape a ≡ chosen_widths shape b
widths_same (Shape.Object key fields) a b same = object_same 0 fields a b same
widths_same (Shape.List element) a b same = list_same a b same
widths_same (Shape.Set element) a b same = set_same a b same
widths_same (Shape.Map key value) a b same = map_same a b same

total_same : (shape : Shape) (a b : List Row) → AreSame a b → chosen_total shape a ≡ chosen_total shape b
total_same (Shape.Object key fields) a b same = refl
total_same (Shape.List element) a b same = ap (λ n. min n (2 ^ 25 + 1)) (same_length elements_of_row a b same)
total_same (Shape.Set element) a b same = ap (λ n. min n (2 ^ 25 + 1)) (buckets_same a b same)
total_same (Shape.Map key value) a b same = ap (λ n. min n (2 ^ 25 + 1)) (buckets_same a b same)

turned : (old new : Table) (type_index ordinal : ℕ) → IsLiveInEither old new type_index ordinal → IsLiveInEither new old type_index ordinal
turned old new type_index ordinal (inl was) = inr was
turned old new type_index ordinal (inr is) = inl is

greatest_back : (old new : Table) (type_index : ℕ) (most : Option ℕ) → IsGreatestOrdinal old new type_index most → IsGreatestOrdinal new old type_index most
greatest_back old new type_index None greatest = λ ordinal live. greatest ordinal (turned new old type_index ordinal live)
greatest_back old new type_index (Some most) greatest = (turned old new type_index most greatest.0, λ ordinal live. greatest.1 ordinal (turned new old type_index ordinal live))

module _ (shape : Shape) (old new : Table) (type_index : ℕ) (chosen : Chosen) (agree : Agree old new type_index) (keeps : KeepsCounts shape old new type_index) where
  same_rows : AreSame (rows_of_both old new type_index) (rows_of_both new old type_index)
  same_rows = same_back old new type_index agree (2 ^ 22) keeps.ordinals

  pub keeps_back : KeepsCounts shape new old type_index
  keeps_back =
      record {
        ordinals = λ ordinal live. keeps.ordinals ordinal (turned new old type_index ordinal live);
        items = subst (λ (n : ℕ). n ≤ 2 ^ 25) (total_same shape (rows_of_both old new type_index) (rows_of_both new old type_index) same_rows) keeps.items;
        old_bytes = keeps.new_bytes;
        new_bytes = keeps.old_bytes;
      }

  pub chosen_back : IsChosen shape old new type_index chosen → IsChosen shape new old type_index chosen
  chosen_back is =
      record {
        max = greatest_back old new type_index chosen.max is.max;
        widths = is.widths ∙ widths_same shape (rows_of_both old new type_index) (rows_of_both new old type_index) same_rows;
        total = is.total ∙ total_same shape (rows_of_both old new type_index) (rows_of_both new old type_index) same_rows;
        rows = same_rows.there (IsRowOf shape) is.rows;
      }

  pub suits_new : IsChosen shape old new type_index chosen → Suits shape new type_index chosen
  suits_new is = record { old = old; agree = agree; keeps = keeps; is = is }

  pub suits_old : IsChosen shape old new type_index chosen → Suits shape old type_index chosen
  suits_old is = record { old = new; agree = agree_back old new type_index agree; keeps = keeps_back; is = chosen_back is }
