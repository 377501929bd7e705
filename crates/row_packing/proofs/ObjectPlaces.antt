-- Lemmas on the records of places: the widths that are chosen over two states hold them.
use Rattle.std.proofs.Common.{◌≡◌, ℕ, zero, suc, ◌+◌, ◌-◌, ◌^◌, ◌<◌, ◌≤◌, max, List, [], ◌∷◌, ◌++◌, length, Bool, true, false, Option, Some, None, refl, sym, ap, ◌∙◌, subst, arith, rules, add-zero}
use Rattle.std.specs.Prelude.{All, IfSome, IsSomeAnd, MatchOption, pos, negsuc, slice_get, slice_index, slice_index_or, if◌then◌else◌}
use Rattle.std.specs.Option.{option_map_or, option_to_list}
use Rattle.std.specs.List.{AllZip}
use Rattle.std.proofs.Math.Pow.{pow_mono}
use Rattle.std.proofs.lemmas.List.{length-map}
use Rattle.std.proofs.lemmas.List.Elements.{All-append, All-cons, All-head, All-tail}
use Rattle.std.proofs.lemmas.Slice.Zip.{AllZip-right}
use Rattle.bit_array.specs.Digits.{digit_count}
use Rattle.bit_array.proofs.DigitCounts.{digit_count-holds, digit_count-le}
use Rattle.row_model.specs.Row.{FitsKind, IsValueInRange, is_least}
use Rattle.row_model.specs.Table.{Table, row_at}
use Rattle.row_model.specs.declared.row.Row.{Row}
use Rattle.row_model.specs.declared.row.Value.{Value}
use Rattle.schema_model.specs.declared.schema.Field.{Field}
use Rattle.schema_model.specs.declared.schema.FieldKind.{FieldKind}
use Rattle.schema_model.specs.declared.schema.Shape.{Shape}
use Rattle.row_model.specs.BothStates.{rows_of_both}
use Rattle.object_codec.specs.ObjectPlace.{IsKindWidth, IsFieldWidth}
use Rattle.object_codec.specs.Packing.{CanPack, HasBytes, HoldsValue, IsWidthFor, values_of_place}
use Rattle.object_codec.specs.Stored.{values_of_row, value_at, column, element_number, stored_number}
use Rattle.object_codec.specs.Widths.{value_bits, most_bits, byte_count, width_for, widths_for, records_of}
use Rattle.row_widths.proofs.RecordSpreads.{widths_from}
use Rattle.type_rows.specs.WordsHeld.{part_bytes, field_bytes, bytes_held}
use Rattle.row_packing.specs.Chosen.{IsRowOf}
use Rattle.row_packing.specs.Places.{places_under, Agree}
use Rattle.row_packing.proofs.Greatest.{all_none, all_gives}
use Rattle.row_packing.proofs.RowBytes.{column_count, column_places, field_le}
use Rattle.row_packing.proofs.RowsUnder.{RiseFrom, sum_both, all_places, at_place_of}

-- ---- the bits of values

most-append : (xs ys : List Value) → most_bits (xs ++ ys) ≡ max (most_bits xs) (most_bits ys)
most-append [] ys = omega arith
most-append (x ∷ xs) ys = omega (arith, most-append xs ys)

most_at : (index : ℕ) (values : List Value) (value : Value) → slice_get values index ≡ Some value → value_bits value ≤ most_bits (value_at index values)
most_at index values value at = subst (λ (o : Option Value). value_bits value ≤ most_bits (option_to_list o)) (sym at) (omega arith)

-- no value at an index takes more bits than its column
abbrev IsWithin : ℕ → ℕ → Row → Type 0
IsWithin index most row = (value : Value) → slice_get (values_of_row row) index ≡ Some value → value_bits value ≤ most

pub within_most : (index : ℕ) (rows : List Row) → All (IsWithin index (most_bits (column index (records_of rows)))) rows
within_most index [] = all_none (IsWithin index 0)
within_most index (row ∷ rows) =
    let here = value_at index (values_of_row row) in
    let rest = column index (records_of rows) in
    let split = most-append here rest in
    All-cons (IsWithin index (most_bits (here ++ rest))) row rows (λ value at. omega (arith, split, most_at index (values_of_row row) value at))
    (all_gives (IsWithin index (most_bits rest)) (IsWithin index (most_bits (here ++ rest))) rows (λ other within value at. omega (arith, split, within value at)) (within_most index rows))

-- a number takes so many bits that it is not all ones
bits_hold : (number : Option ℕ) (width : ℕ) → option_map_or (λ n. digit_count (n + 1)) number 1 ≤ width → IfSome number (λ n. n < 2 ^ width - 1)
bits_hold None width le = tt
bits_hold (Some n) width le = let up : 2 ^ digit_count (n + 1) ≤ 2 ^ width = pow_mono le in omega (arith, digit_count-holds (n + 1), up)

digits_some : (n : ℕ) → 1 ≤ digit_count (n + 1)
digits_some n = some (digit_count (n + 1)) (digit_count-holds (n + 1))
  where
    some : (d : ℕ) → n + 1 < 2 ^ d → 1 ≤ d
    some zero small = absurd (omega arith)
    some (suc d) small = omega arith

-- a width holds a value that may stand in its field
pub width_holds_value : (kind : FieldKind) (values : List Value) (value : Value) → FitsKind kind value → value_bits value ≤ most_bits values → HoldsValue (width_for kind values) value
width_holds_value (FieldKind.Reference name) values value fits le = bits_hold (stored_number value) (most_bits values) le
width_holds_value FieldKind.Int values value fits le = bits_hold (stored_number value) (most_bits values) le
width_holds_value FieldKind.Long values value fits le = bits_hold (stored_number value) (most_bits values) le
width_holds_value FieldKind.Boolean [] (Value.Bool true) fits le = absurd (omega (arith, digits_some 1, le))
width_holds_value FieldKind.Boolean [] (Value.Bool false) fits le = absurd (omega (arith, digits_some 0, le))
width_holds_value FieldKind.Boolean (first ∷ rest) (Value.Bool true) fits le = omega arith
width_holds_value FieldKind.Boolean (first ∷ rest) (Value.Bool false) fits le = omega arith
width_holds_value FieldKind.Boolean values Value.Null fits le = tt
width_holds_value FieldKind.Boolean values _ fits le = absurd fits
width_holds_value FieldKind.Text values Value.Null fits le = tt
width_holds_value FieldKind.Text values (Value.Text units) fits le = tt
width_holds_value FieldKind.Text values _ fits le = absurd fits
width_holds_value FieldKind.Bytes values Value.Null fits le = tt
width_holds_value FieldKind.Bytes values (Value.Bytes bytes) fits le = tt
width_holds_value FieldKind.Bytes values _ fits le = absurd fits

-- ---- the widths of fields

-- a width of a field has the bits for the bytes of all its values
pub width_bytes : (kind : FieldKind) (values : List Value) → HasBytes kind → byte_count values < 2 ^ (width_for kind values - 1)
width_bytes FieldKind.Text values has = let e : digit_count (byte_count values + 1) + 1 - 1 ≡ digit_count (byte_count values + 1) = omega arith in subst (λ w. byte_count values < 2 ^ w) (sym e) (omega (arith, digit_count-holds (byte_count values + 1)))
width_bytes FieldKind.Bytes values has = let e : digit_count (byte_count values + 1) + 1 - 1 ≡ digit_count (byte_count values + 1) = omega arith in subst (λ w. byte_count values < 2 ^ w) (sym e) (omega (arith, digit_count-holds (byte_count values + 1)))
width_bytes _ values has = absurd has

-- the width at an index is that of its column
pub width_at : (from : ℕ) (fields : List Field) (rows : List Row) (index : ℕ) (field : Field) → slice_get fields index ≡ Some field
    → slice_index (widths_from from fields rows) index ≡ width_for field.kind (column (from + index) (records_of rows))
width_at from [] rows index field at = absurd cc
width_at from (first ∷ rest) rows zero field at =
    let is : first ≡ field = cc in
    ap (λ (f : Field). width_for f.kind (column from (records_of rows))) is ∙ ap (λ n. width_for field.kind (column n (records_of rows))) (sym (add-zero from))
width_at from (first ∷ rest) rows (suc index) field at =
    let e : from + 1 + index ≡ from + suc index = omega arith in
    width_at (from + 1) rest rows index field at ∙ ap (λ n. width_for field.kind (column n (records_of rows))) e

-- what holds of each field and the width of its column holds of all
pub zip_widths : (R : Field → ℕ → Type 0) (from : ℕ) (fields : List Field) (rows : List Row)
    → ((index : ℕ) (field : Field) → slice_get fields index ≡ Some field → R field (width_for field.kind (column (from + index) (records_of rows)))) → AllZip R fields (widths_from from fields rows)
zip_widths R from [] rows each = tt
zip_widths R from (field ∷ fields) rows each = (
  subst (λ n. R field (width_for field.kind (column n (records_of rows)))) (add-zero from) (each 0 field refl),
  zip_widths R (from + 1) fields rows
      (λ index other at. let e : from + suc index ≡ from + 1 + index = omega arith in subst (λ n. R other (width_for other.kind (column n (records_of rows)))) e (each (suc index) other at)),
)

-- ---- the widths are at most 64

least_not : (number : ℕ) → (is_least 64 (negsuc number) ≡ true → ⊥) → number < 2 ^ 63 → number < 2 ^ 63 - 1
least_not number not_least small = grind arith

number_small : (value : Value) → IsValueInRange value → IfSome (stored_number value) (λ n. n + 1 < 2 ^ 64)
number_small Value.Null range = tt
number_small (Value.Int (pos n)) range = let small : n < 2 ^ 31 = search rules in omega arith
number_small (Value.Int (negsuc n)) range = by_least (is_least 32 (negsuc n)) refl
  where
    by_least : (b : Bool) → is_least 32 (negsuc n) ≡ b → IfSome (element_number (if b then Value.Null else Value.Int (negsuc n))) (λ m. m + 1 < 2 ^ 64)
    by_least true is = tt
    by_least false is = let small : n < 2 ^ 31 = search rules in omega arith
number_small (Value.Long (pos n)) range = let small : n < 2 ^ 63 = search rules in omega arith
number_small (Value.Long (negsuc n)) range = by_least (is_least 64 (negsuc n)) refl
  where
    by_least : (b : Bool) → is_least 64 (negsuc n) ≡ b → IfSome (element_number (if b then Value.Null else Value.Long (negsuc n))) (λ m. m + 1 < 2 ^ 64)
    by_least true is = tt
    by_least false is = let small : n < 2 ^ 63 = search rules in let less = least_not n (λ least. absurd cc) small in omega arith
number_small (Value.Bool true) range = omega arith
number_small (Value.Bool false) range = omega arith
number_small (Value.Text units) range = tt
number_small (Value.Bytes bytes) range = tt
number_small (Value.Ref ordinal) range = omega arith

bits_small : (number : Option ℕ) → IfSome number (λ n. n + 1 < 2 ^ 64) → option_map_or (λ n. digit_count (n + 1)) number 1 ≤ 64
bits_small None small = omega arith
bits_small (Some n) small = digit_count-le (n + 1) 64 small

most_small : (values : List Value) → All IsValueInRange values → most_bits values ≤ 64
most_small [] all = omega arith
most_small (value ∷ rest) all = omega (arith, bits_small (stored_number value) (number_small value (All-head IsValueInRange value rest all)), most_small rest (All-tail IsValueInRange value rest all))

pub width_small : (kind : FieldKind) (values : List Value) → All IsValueInRange values → byte_count values < 2 ^ 62 → width_for kind values ≤ 64
width_small (FieldKind.Reference name) values all few = most_small values all
width_small FieldKind.Int values all few = most_small values all
width_small FieldKind.Long values all few = most_small values all
width_small FieldKind.Boolean [] all few = omega arith
width_small FieldKind.Boolean (value ∷ rest) all few = omega arith
width_small FieldKind.Text values all few = omega (arith, digit_count-le (byte_count values + 1) 63 (omega arith))
width_small FieldKind.Bytes values all few = omega (arith, digit_count-le (byte_count values + 1) 63 (omega arith))

-- the values of a column are in range
value_range : (index : ℕ) (values : List Value) → All IsValueInRange values → All IsValueInRange (value_at index values)
value_range index [] all = all_none IsValueInRange
value_range zero (value ∷ rest) all = All-cons IsValueInRange value [] (All-head IsValueInRange value rest all) (all_none IsValueInRange)
value_range (suc index) (value ∷ rest) all = value_range index rest (All-tail IsValueInRange value rest all)

row_range : (index : ℕ) (shape : Shape) (row : Row) → IsRowOf shape row → All IsValueInRange (value_at index (values_of_row row))
row_range index shape (Row.Object values) is = value_range index values is.1
row_range index shape (Row.List ordinals) is = all_none IsValueInRange
row_range index shape (Row.Set ordinals) is = all_none IsValueInRange
row_range index shape (Row.Map pairs) is = all_none IsValueInRange

column_range : (index : ℕ) (shape : Shape) (rows : List Row) → All (IsRowOf shape) rows → All IsValueInRange (column index (records_of rows))
column_range index shape [] all = all_none IsValueInRange
column_range index shape (row ∷ rows) all =
    All-append IsValueInRange (value_at index (values_of_row row)) (column index (records_of rows)) (row_range index shape row (All-head (IsRowOf shape) row rows all))
    (column_range index shape rows (All-tail (IsRowOf shape) row rows all))

-- ---- the widths where there are rows

kind_boolean : (kind : FieldKind) (value : Value) (values : List Value) → IsKindWidth kind (width_for kind (value ∷ values))
kind_boolean (FieldKind.Reference name) value values = tt
kind_boolean FieldKind.Int value values = tt
kind_boolean FieldKind.Long value values = tt
kind_boolean FieldKind.Boolean value values = refl
kind_boolean FieldKind.Text value values = omega arith
kind_boolean FieldKind.Bytes value values = omega arith

-- a record has a value for each field
value_there : (fields : List Field) (values : List Value) (index : ℕ) (field : Field) → AllZip (λ f value. FitsKind f.kind value) fields values → slice_get fields index ≡ Some field
    → (value : Value) × (slice_get values index ≡ Some value)
value_there [] values index field fits at = absurd cc
value_there (f ∷ fs) [] index field fits at = absurd fits
value_there (f ∷ fs) (v ∷ vs) zero field fits at = (v, refl)
value_there (f ∷ fs) (v ∷ vs) (suc index) field fits at = value_there fs vs index field fits.1 at

pub kind_width : (key : Option (List (List ℕ))) (fields : List Field) (rows : List Row) (index : ℕ) (field : Field) → All (IsRowOf (Shape.Object key fields)) rows → (rows ≡ [] → ⊥)
    → slice_get fields index ≡ Some field → IsKindWidth field.kind (width_for field.kind (column index (records_of rows)))
kind_width key fields [] index field all some at = absurd (some refl)
kind_width key fields (Row.Object values ∷ rows) index field all some at =
    let fits = (All-head (IsRowOf (Shape.Object key fields)) (Row.Object values) rows all).0 in
    let there = value_there fields values index field fits at in
    subst (λ (o : Option Value). IsKindWidth field.kind (width_for field.kind (option_to_list o ++ column index (records_of rows)))) (sym there.1) (kind_boolean field.kind there.0 (column index (records_of rows)))
kind_width key fields (Row.List ordinals ∷ rows) index field all some at = absurd (All-head (IsRowOf (Shape.Object key fields)) (Row.List ordinals) rows all).0
kind_width key fields (Row.Set ordinals ∷ rows) index field all some at = absurd (All-head (IsRowOf (Shape.Object key fields)) (Row.Set ordinals) rows all).0
kind_width key fields (Row.Map pairs ∷ rows) index field all some at = absurd (All-head (IsRowOf (Shape.Object key fields)) (Row.Map pairs) rows all).0

-- ---- what can be packed

-- what is chosen for the records of both states
pub record AreRecords (key : Option (List (List ℕ))) (fields : List Field) (old new : Table) (type_index : ℕ) : Type 0 where
  pub agree : Agree old new type_index
  pub rows : All (IsRowOf (Shape.Object key fields)) (rows_of_both old new type_index)
  pub bytes : bytes_held (rows_of_both old new type_index) < 2 ^ 62
  pub few : length fields ≤ 1024

-- the widths hold each value of a row
abbrev HoldsNumbers : List ℕ → Row → Type 0
HoldsNumbers widths row = (index : ℕ) → IfSome (slice_get (values_of_row row) index) (HoldsValue (slice_index widths index))

holds_numbers : (key : Option (List (List ℕ))) (fields : List Field) (rows : List Row) (row : Row) → IsRowOf (Shape.Object key fields) row
    → ((index : ℕ) → IsWithin index (most_bits (column index (records_of rows))) row) → HoldsNumbers (widths_for fields rows) row
holds_numbers key fields rows (Row.List ordinals) is within index = tt
holds_numbers key fields rows (Row.Set ordinals) is within index = tt
holds_numbers key fields rows (Row.Map pairs) is within index = tt
holds_numbers key fields rows (Row.Object values) is within index = by_value (slice_get values index) refl (AllZip-right (λ f v. FitsKind f.kind v) fields values is.0 index)
  where
    with_field : (value : Value) (field : Option Field) → slice_get values index ≡ Some value → slice_get fields index ≡ field → IsSomeAnd field (λ f. FitsKind f.kind value)
        → HoldsValue (slice_index (widths_for fields rows) index) value
    with_field value None at found fits = absurd fits
    with_field value (Some field) at found fits =
        subst (λ w. HoldsValue w value) (sym (width_at 0 fields rows index field found ∙ ap (λ n. width_for field.kind (column n (records_of rows))) zero_plus))
        (width_holds_value field.kind (column index (records_of rows)) value fits (within index value at))
      where
        zero_plus : 0 + index ≡ index
        zero_plus = omega arith

    by_value : (value : Option Value) → slice_get values index ≡ value → MatchOption value (Unit {0}) (λ v. IsSomeAnd (slice_get fields index) (λ f. FitsKind f.kind v))
        → IfSome value (HoldsValue (slice_index (widths_for fields rows) index))
    by_value None at fits = tt
    by_value (Some value) at fits = with_field value (slice_get fields index) at refl fits

module _ (key : Option (List (List ℕ))) (fields : List Field) (old new : Table) (type_index : ℕ) (are : AreRecords key fields old new type_index) where
  column_few : (index : ℕ) → byte_count (column index (records_of (rows_of_both old new type_index))) < 2 ^ 62
  column_few index = omega (arith, column_count index (rows_of_both old new type_index), field_le index (rows_of_both old new type_index), are.bytes)

  -- the width of a field is at most 64
  narrow_at : (index : ℕ) (field : Field) → width_for field.kind (column index (records_of (rows_of_both old new type_index))) ≤ 64
  narrow_at index field =
      width_small field.kind (column index (records_of (rows_of_both old new type_index))) (column_range index (Shape.Object key fields) (rows_of_both old new type_index) are.rows) (column_few index)

  pub object_narrow : AllZip (λ field width. width ≤ 64) fields (widths_for fields (rows_of_both old new type_index))
  object_narrow = zip_widths (λ field width. width ≤ 64) 0 fields (rows_of_both old new type_index) (λ index field at. narrow_at (0 + index) field)

  pub object_wide : (rows_of_both old new type_index ≡ [] → ⊥) → AllZip IsFieldWidth fields (widths_for fields (rows_of_both old new type_index))
  object_wide some =
      zip_widths IsFieldWidth 0 fields (rows_of_both old new type_index)
      (λ index field at.
      let e : index ≡ 0 + index = omega arith in
      subst (λ n. IsFieldWidth field (width_for field.kind (column n (records_of (rows_of_both old new type_index))))) e
      (narrow_at index field, kind_width key fields (rows_of_both old new type_index) index field are.rows some at))

  wide_for : (places : List (Option Row)) → (rows_of_both old new type_index ≡ [] → places ≡ []) → AllZip (IsWidthFor places) fields (widths_for fields (rows_of_both old new type_index))
  wide_for [] none = object_narrow
  wide_for (place ∷ places) none = object_wide (λ empty. let is = none empty in absurd cc)

  pub numbers_both : All (HoldsNumbers (widths_for fields (rows_of_both old new type_index))) (rows_of_both old new type_index)
  numbers_both k d inside =
      holds_numbers key fields (rows_of_both old new type_index) (slice_index_or (rows_of_both old new type_index) k d) (are.rows k d inside)
      (λ index. within_most index (rows_of_both old new type_index) k d inside)

  -- the width of a field that has bytes has the bits for those of both states
  pub ends_both : (index : ℕ) (field : Field) → slice_get fields index ≡ Some field → HasBytes field.kind
      → field_bytes index (rows_of_both old new type_index) < 2 ^ (slice_index (widths_for fields (rows_of_both old new type_index)) index - 1)
  ends_both index field at has =
      let rows = rows_of_both old new type_index in
      let e : 0 + index ≡ index = omega arith in
      let width = width_at 0 fields rows index field at ∙ ap (λ n. width_for field.kind (column n (records_of rows))) e in
      subst (λ w. field_bytes index rows < 2 ^ (w - 1)) (sym width)
      (subst (λ n. n < 2 ^ (width_for field.kind (column index (records_of rows)) - 1)) (column_count index rows) (width_bytes field.kind (column index (records_of rows)) has))

  -- where there are rows each field has a width that its kind may have
  pub kind_at : (rows_of_both old new type_index ≡ [] → ⊥) → (index : ℕ) (field : Field) → slice_get fields index ≡ Some field
      → IsKindWidth field.kind (slice_index (widths_for fields (rows_of_both old new type_index)) index)
  kind_at some index field at =
      let rows = rows_of_both old new type_index in
      let e : 0 + index ≡ index = omega arith in
      let width = width_at 0 fields rows index field at ∙ ap (λ n. width_for field.kind (column n (records_of rows))) e in
      subst (IsKindWidth field.kind) (sym width) (kind_width key fields rows index field are.rows some at)

  pub object_can : (ordinals : List ℕ) → RiseFrom 0 ordinals → length ordinals ≤ 2 ^ 22 → (rows_of_both old new type_index ≡ [] → ordinals ≡ [])
      → CanPack (Shape.Object key fields) (widths_for fields (rows_of_both old new type_index)) (places_under new type_index ordinals)
  object_can ordinals rise few none =
      let rows = rows_of_both old new type_index in
      let widths = widths_for fields rows in
      let places = places_under new type_index ordinals in
      let fit = all_places old new type_index are.agree (IsRowOf (Shape.Object key fields)) ordinals are.rows in
      let numbers = all_places old new type_index are.agree (HoldsNumbers widths) ordinals numbers_both in
      record {
        object = tt;
        few = are.few;
        wide = wide_for places (λ empty. ap (places_under new type_index) (none empty));
        places = omega (arith, length-map ordinals (row_at new type_index), few);
        fit = λ place row at. (at_place_of (IsRowOf (Shape.Object key fields)) places fit place row at).0;
        numbers = λ place index row at. place_numbers widths places numbers place index row at;
        ends = λ index field at has.
            omega (arith, ends_both index field at has, column_places index places, sum_both old new type_index are.agree (part_bytes index) ordinals rise);
      }
    where
      place_numbers : (widths : List ℕ) (places : List (Option Row)) → All (λ row. IfSome row (HoldsNumbers widths)) places → (place index : ℕ) (row : Option Row) → slice_get places place ≡ Some row
          → IfSome (slice_get (values_of_place row) index) (HoldsValue (slice_index widths index))
      place_numbers widths places all place index None at = tt
      place_numbers widths places all place index (Some row) at = at_place_of (HoldsNumbers widths) places all place row at index
