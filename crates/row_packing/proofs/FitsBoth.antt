-- Lemmas on the rows of both states: the widths that are chosen for them fit each, behind all of them.
use Rattle.std.proofs.Common.{◌≡◌, ℕ, zero, suc, ◌+◌, ◌-◌, ◌^◌, ◌<◌, ◌≤◌, max, List, [], ◌∷◌, length, get_or, Option, Some, refl, sym, ap, ◌∙◌, subst, arith}
use Rattle.std.specs.Prelude.{All, IfSome, flat_map, map, slice_get, slice_index}
use Rattle.std.proofs.lemmas.List.{length-map}
use Rattle.std.proofs.lemmas.List.Concat.{length-flat_map}
use Rattle.bit_array.specs.Digits.{digit_count}
use Rattle.row_model.specs.Row.{FitsKind, stored_value}
use Rattle.row_model.specs.Table.{Table}
use Rattle.row_model.specs.declared.row.Row.{Row}
use Rattle.row_model.specs.declared.row.Value.{Value}
use Rattle.schema_model.specs.declared.schema.Field.{Field}
use Rattle.schema_model.specs.declared.schema.FieldKind.{FieldKind}
use Rattle.schema_model.specs.declared.schema.Shape.{Shape}
use Rattle.row_model.specs.BothStates.{rows_of_both}
use Rattle.object_codec.specs.ObjectPlace.{IsKindWidth}
use Rattle.object_codec.specs.Packing.{HasBytes, HoldsValue}
use Rattle.object_codec.specs.Stored.{values_of_row, element_number}
use Rattle.object_codec.specs.Widths.{widths_for as object_widths}
use Rattle.list_codec.specs.Widths.{elements_of_row, elements_of_both, greatest, widths_for as list_widths}
use Rattle.bucket_codec.specs.BucketCount.{bucket_count}
use Rattle.bucket_codec.specs.Packed.{set_pair}
use Rattle.bucket_codec.specs.Widths.{buckets_of_rows, set_widths, widths_for as bucket_widths}
use Rattle.type_rows.specs.Holds.{FitsWidth, FitsRow}
use Rattle.type_rows.specs.Layout.{items_of_row, item_count}
use Rattle.type_rows.specs.WordsHeld.{field_bytes}
use Rattle.row_packing.specs.Chosen.{IsRowOf}
use Rattle.row_packing.specs.Written.{IsStored}
use Rattle.row_packing.proofs.Greatest.{all_gives, all_parts, all_images, sum_typed, width_holds, zip_at}
use Rattle.row_packing.proofs.ListPlaces.{AreElements, greatest_each}
use Rattle.row_packing.proofs.ObjectPlaces.{AreRecords, numbers_both, ends_both, kind_at}
use Rattle.row_packing.proofs.BucketPlaces.{AreRuns, row_buckets, buckets_sum, IsWithin, within_all, most_key, most_size, most_value, key_holds}

-- ---- items

-- the items of lists are their elements
pub item_elements : (element : List ℕ) (rows : List Row) → All (IsRowOf (Shape.List element)) rows → item_count rows ≡ length (flat_map elements_of_row rows)
item_elements element rows all = sum_typed (IsRowOf (Shape.List element)) items_of_row (λ row. length (elements_of_row row)) rows here all ∙ sym (length-flat_map elements_of_row rows)
  where
    here : (row : Row) → IsRowOf (Shape.List element) row → items_of_row row ≡ length (elements_of_row row)
    here (Row.List ordinals) is = refl
    here (Row.Object values) is = refl
    here (Row.Set ordinals) is = absurd is.0
    here (Row.Map pairs) is = absurd is.0

-- ---- records

-- a value that a blob can hold fits the width that holds it
value_fits : (kind : FieldKind) (width end : ℕ) (value : Value) → FitsKind kind value → stored_value value ≡ value → HoldsValue width value → IsKindWidth kind width → (HasBytes kind → end < 2 ^ (width - 1))
    → FitsWidth kind width end value
value_fits (FieldKind.Reference name) width end Value.Null fits stored holds wide ends = tt
value_fits (FieldKind.Reference name) width end (Value.Ref ordinal) fits stored holds wide ends = holds
value_fits (FieldKind.Reference name) width end _ fits stored holds wide ends = absurd fits
value_fits FieldKind.Int width end Value.Null fits stored holds wide ends = tt
value_fits FieldKind.Int width end (Value.Int number) fits stored holds wide ends = subst (λ (v : Value). IfSome (element_number v) (λ n. n < 2 ^ width - 1)) stored holds
value_fits FieldKind.Int width end _ fits stored holds wide ends = absurd fits
value_fits FieldKind.Long width end Value.Null fits stored holds wide ends = tt
value_fits FieldKind.Long width end (Value.Long number) fits stored holds wide ends = subst (λ (v : Value). IfSome (element_number v) (λ n. n < 2 ^ width - 1)) stored holds
value_fits FieldKind.Long width end _ fits stored holds wide ends = absurd fits
value_fits FieldKind.Boolean width end Value.Null fits stored holds wide ends = wide
value_fits FieldKind.Boolean width end (Value.Bool flag) fits stored holds wide ends = wide
value_fits FieldKind.Boolean width end _ fits stored holds wide ends = absurd fits
value_fits FieldKind.Text width end value fits stored holds wide ends = ends tt
value_fits FieldKind.Bytes width end value fits stored holds wide ends = ends tt

values_stored : (values : List Value) → map stored_value values ≡ values → (index : ℕ) (value : Value) → slice_get values index ≡ Some value → stored_value value ≡ value
values_stored [] same index value at = absurd cc
values_stored (v ∷ vs) same zero value at = let is : v ≡ value = cc in let here : stored_value v ≡ v = cc in ap stored_value (sym is) ∙ here ∙ is
values_stored (v ∷ vs) same (suc index) value at = let rest : map stored_value vs ≡ vs = cc in values_stored vs rest index value at

object_values : (a b : List Value) → Row.Object a ≡ Row.Object b → a ≡ b
object_values a b same = cc

pub fits_object : (key : Option (List (List ℕ))) (fields : List Field) (old new : Table) (type_index : ℕ) (are : AreRecords key fields old new type_index) → All IsStored (rows_of_both old new type_index)
    → All (FitsRow (Shape.Object key fields) (object_widths fields (rows_of_both old new type_index)) (λ f. field_bytes f (rows_of_both old new type_index)) (item_count (rows_of_both old new type_index)))
    (rows_of_both old new type_index)
fits_object key fields old new type_index are stored k d inside =
    let rows = rows_of_both old new type_index in
    by_row (get_or rows k d) (are.rows k d inside) (stored k d inside) (numbers_both key fields old new type_index are k d inside)
  where
    by_row : (row : Row) → IsRowOf (Shape.Object key fields) row → IsStored row
        → ((index : ℕ) → IfSome (slice_get (values_of_row row) index) (HoldsValue (slice_index (object_widths fields (rows_of_both old new type_index)) index)))
        → FitsRow (Shape.Object key fields) (object_widths fields (rows_of_both old new type_index)) (λ f. field_bytes f (rows_of_both old new type_index)) (item_count (rows_of_both old new type_index)) row
    by_row (Row.Object values) is same holds = λ f field value at there.
        let width = slice_index (object_widths fields (rows_of_both old new type_index)) f in
        let kind = zip_at (λ (g : Field) (v : Value). FitsKind g.kind v) fields values f field value is.0 at there in
        value_fits field.kind width (field_bytes f (rows_of_both old new type_index)) value kind (values_stored values (object_values _ _ same) f value there)
        (subst (λ (o : Option Value). IfSome o (HoldsValue width)) there (holds f)) (kind_at key fields old new type_index are (λ empty. nothing k d inside empty) f field at) (ends_both key fields old new type_index are f field at)
      where
        nothing : (k : ℕ) (d : Row) → k < length (rows_of_both old new type_index) → rows_of_both old new type_index ≡ [] → ⊥
        nothing k d inside empty = let none = ap (λ (rs : List Row). length rs) empty in omega arith
    by_row (Row.List ordinals) is same holds = absurd is.0
    by_row (Row.Set ordinals) is same holds = absurd is.0
    by_row (Row.Map pairs) is same holds = absurd is.0

-- ---- lists

pub fits_list : (element : List ℕ) (old new : Table) (type_index : ℕ) → AreElements element old new type_index → (ends : ℕ → ℕ)
    → All (FitsRow (Shape.List element) (list_widths (elements_of_both old new type_index)) ends (item_count (rows_of_both old new type_index))) (rows_of_both old new type_index)
fits_list element old new type_index are ends k d inside =
    let rows = rows_of_both old new type_index in
    let most = greatest (elements_of_both old new type_index) in
    by_row (get_or rows k d) (are.rows k d inside) (all_parts (λ n. n ≤ most) elements_of_row rows (greatest_each (elements_of_both old new type_index)) k d inside)
  where
    by_row : (row : Row) → IsRowOf (Shape.List element) row → All (λ n. n ≤ greatest (elements_of_both old new type_index)) (elements_of_row row)
        → FitsRow (Shape.List element) (list_widths (elements_of_both old new type_index)) ends (item_count (rows_of_both old new type_index)) row
    by_row (Row.List ordinals) is within =
        record {
          pointer = width_holds (length (elements_of_both old new type_index)) (item_count (rows_of_both old new type_index)) (omega (arith, item_elements element (rows_of_both old new type_index) are.rows));
          elements = all_gives (λ n. n ≤ greatest (elements_of_both old new type_index)) (λ n. n < 2 ^ max 1 (digit_count (greatest (elements_of_both old new type_index)))) ordinals
              (λ n le. width_holds (greatest (elements_of_both old new type_index)) n le) within;
        }
    by_row (Row.Object values) is within = absurd is.0
    by_row (Row.Set ordinals) is within = absurd is.0
    by_row (Row.Map pairs) is within = absurd is.0

-- ---- sets and maps

-- a row of a set or a map
abbrev IsRunRow : Row → Type 0
IsRunRow (Row.Set ordinals) = Unit {0}
IsRunRow (Row.Map pairs) = Unit {0}
IsRunRow _ = ⊥

row_items : (row : Row) → IsRunRow row → items_of_row row ≡ row_buckets row
row_items (Row.Set ordinals) is = ap bucket_count (sym (length-map ordinals set_pair))
row_items (Row.Map pairs) is = refl
row_items (Row.List ordinals) is = absurd is
row_items (Row.Object values) is = absurd is

-- the items of sets and maps are their buckets
item_buckets : (rows : List Row) → All IsRunRow rows → item_count rows ≡ buckets_of_rows rows
item_buckets rows all = sum_typed IsRunRow items_of_row row_buckets rows row_items all ∙ sym (buckets_sum rows)

set_row : (element : List ℕ) (row : Row) → IsRowOf (Shape.Set element) row → IsRunRow row
set_row element (Row.Set ordinals) is = tt
set_row element (Row.Map pairs) is = absurd is.0
set_row element (Row.List ordinals) is = absurd is.0
set_row element (Row.Object values) is = absurd is.0

map_row : (key value : List ℕ) (row : Row) → IsRowOf (Shape.Map key value) row → IsRunRow row
map_row key value (Row.Map pairs) is = tt
map_row key value (Row.Set ordinals) is = absurd is.0
map_row key value (Row.List ordinals) is = absurd is.0
map_row key value (Row.Object values) is = absurd is.0

pub set_items : (element : List ℕ) (rows : List Row) → All (IsRowOf (Shape.Set element)) rows → item_count rows ≡ buckets_of_rows rows
set_items element rows all = item_buckets rows (all_gives (IsRowOf (Shape.Set element)) IsRunRow rows (set_row element) all)

pub map_items : (key value : List ℕ) (rows : List Row) → All (IsRowOf (Shape.Map key value)) rows → item_count rows ≡ buckets_of_rows rows
map_items key value rows all = item_buckets rows (all_gives (IsRowOf (Shape.Map key value)) IsRunRow rows (map_row key value) all)

pub fits_set : (element : List ℕ) (old new : Table) (type_index : ℕ) → AreRuns (Shape.Set element) old new type_index → (ends : ℕ → ℕ)
    → All (FitsRow (Shape.Set element) (set_widths (rows_of_both old new type_index)) ends (item_count (rows_of_both old new type_index))) (rows_of_both old new type_index)
fits_set element old new type_index are ends k d inside =
    let rows = rows_of_both old new type_index in
    by_row (get_or rows k d) (are.rows k d inside) (within_all rows are.few k d inside)
  where
    by_row : (row : Row) → IsRowOf (Shape.Set element) row → IsWithin (rows_of_both old new type_index) row
        → FitsRow (Shape.Set element) (set_widths (rows_of_both old new type_index)) ends (item_count (rows_of_both old new type_index)) row
    by_row (Row.Set ordinals) is within =
        let all = rows_of_both old new type_index in
        record {
          pointer = width_holds (buckets_of_rows all) (item_count all) (omega (arith, set_items element all are.rows));
          size = width_holds (most_size all) (length ordinals) (omega (arith, within.size, length-map ordinals set_pair));
          elements = all_gives (λ n. n ≤ most_key all) (λ n. n < 2 ^ digit_count (most_key all + 1) - 1) ordinals (λ n le. key_holds (most_key all) n le)
              (all_images (λ (pair : ℕ × ℕ). pair.0 ≤ most_key all) set_pair ordinals within.keys);
        }
    by_row (Row.Map pairs) is within = absurd is.0
    by_row (Row.List ordinals) is within = absurd is.0
    by_row (Row.Object values) is within = absurd is.0

pub fits_map : (key value : List ℕ) (old new : Table) (type_index : ℕ) → AreRuns (Shape.Map key value) old new type_index → (ends : ℕ → ℕ)
    → All (FitsRow (Shape.Map key value) (bucket_widths (Shape.Map key value) (rows_of_both old new type_index)) ends (item_count (rows_of_both old new type_index))) (rows_of_both old new type_index)
fits_map key value old new type_index are ends k d inside =
    let rows = rows_of_both old new type_index in
    by_row (get_or rows k d) (are.rows k d inside) (within_all rows are.few k d inside)
  where
    by_row : (row : Row) → IsRowOf (Shape.Map key value) row → IsWithin (rows_of_both old new type_index) row
        → FitsRow (Shape.Map key value) (bucket_widths (Shape.Map key value) (rows_of_both old new type_index)) ends (item_count (rows_of_both old new type_index)) row
    by_row (Row.Map pairs) is within =
        let all = rows_of_both old new type_index in
        record {
          pointer = width_holds (buckets_of_rows all) (item_count all) (omega (arith, map_items key value all are.rows));
          size = width_holds (most_size all) (length pairs) within.size;
          parts = λ j e there. (key_holds (most_key all) (get_or pairs j e).0 (within.keys j e there), width_holds (most_value all) (get_or pairs j e).1 (within.values j e there));
        }
    by_row (Row.Set ordinals) is within = absurd is.0
    by_row (Row.List ordinals) is within = absurd is.0
    by_row (Row.Object values) is within = absurd is.0
