-- Records that can be packed: there are words and bytes of them.
use Rattle.std.proofs.Common.{◌≡◌, ℕ, ◌+◌, ◌-◌, ◌*◌, ◌^◌, ◌<◌, ◌≤◌, suc, zero, List, [], ◌∷◌, ◌++◌, length, get_or, set, take, refl, sym, subst, arith, rules, Bool, true, false}
use Rattle.std.specs.Prelude.{All, Option, Some, None, IfSome, pos, negsuc, replicate, slice_get, sum, if◌then◌else◌}
use Rattle.std.specs.Option.{option_to_list}
use Rattle.std.proofs.lemmas.List.{get_or_default}
use Rattle.bit_array.specs.Element.{AreWords, words_of}
use Rattle.bit_array.proofs.Blocks.{block_is, block_apart}
use Rattle.schema_model.specs.Parts.{shape_fields}
use Rattle.schema_model.specs.declared.schema.Field.{Field}
use Rattle.schema_model.specs.declared.schema.FieldKind.{FieldKind}
use Rattle.schema_model.specs.declared.schema.Shape.{Shape}
use Rattle.row_model.specs.Areas.{area_of}
use Rattle.row_model.specs.Row.{FitsKind, IsValueInRange, IsRowInRange, is_least}
use Rattle.row_model.specs.declared.row.Row.{Row}
use Rattle.row_model.specs.declared.row.Value.{Value}
use Rattle.object_codec.specs.Encoded.{element_for, gap_element, IsTaken}
use Rattle.object_codec.specs.ObjectPlace.{IsKindWidth}
use Rattle.object_codec.specs.Packing.{CanPack, HasBytes, HoldsValue, IsPacked, values_of_place}
use Rattle.object_codec.specs.Stored.{element_number, greatest_number, stored_number, value_at, value_bytes, values_bytes}
use Rattle.object_codec.proofs.FieldWidths.{wide_at, within}
use Rattle.object_codec.proofs.PlacesPacked.{PackedSoFar, packed_all, packed_more, packed_none, place_room}
use Rattle.object_codec.proofs.RowPuts.{PutSoFar, Room, put_more, put_none, room, row_put}
use Rattle.object_codec.proofs.ValueElements.{found_taken, none_taken}
use Rattle.blob_writing.proofs.SettingBlocks.{sets, zero_words}

-- ---- numbers

at_most : (value : Value) → IsValueInRange value → IfSome (stored_number value) (λ n. n ≤ greatest_number value)
at_most Value.Null range = tt
at_most (Value.Int (pos n)) range = let small : n < 2 ^ 31 = search rules in omega arith
at_most (Value.Int (negsuc n)) range = by_least (is_least 32 (negsuc n)) refl
  where
    by_least : (b : Bool) → is_least 32 (negsuc n) ≡ b → IfSome (element_number (if b then Value.Null else Value.Int (negsuc n))) (λ m. m ≤ 2 ^ 32 - 2)
    by_least true is = tt
    by_least false is = let small : n < 2 ^ 31 = search rules in let other : n < 2 ^ 31 - 1 = grind (arith, is, small) in omega arith
at_most (Value.Long (pos n)) range = let small : n < 2 ^ 63 = search rules in omega arith
at_most (Value.Long (negsuc n)) range = by_least (is_least 64 (negsuc n)) refl
  where
    by_least : (b : Bool) → is_least 64 (negsuc n) ≡ b → IfSome (element_number (if b then Value.Null else Value.Long (negsuc n))) (λ m. m ≤ 2 ^ 64 - 2)
    by_least true is = tt
    by_least false is = let small : n < 2 ^ 63 = search rules in let other : n < 2 ^ 63 - 1 = grind (arith, is, small) in omega arith
at_most (Value.Bool true) range = omega arith
at_most (Value.Bool false) range = omega arith
at_most (Value.Text units) range = tt
at_most (Value.Bytes bytes) range = tt
at_most (Value.Ref ordinal) range = omega arith

-- ---- a value

record Taken (kind : FieldKind) (width : ℕ) (before : List ℕ) (found : Option Value) : Type 0 where
  element : ℕ
  area : List ℕ
  is : IsTaken kind width element before area found

taken : (kind : FieldKind) (width : ℕ) (before : List ℕ) (found : Option Value) → IsKindWidth kind width → IfSome found (FitsKind kind) → IfSome found (HoldsValue width)
    → IfSome found IsValueInRange → (HasBytes kind → length before + length (values_bytes (option_to_list found)) < 2 ^ (width - 1)) → Taken kind width before found
taken kind width before None wide fits held range below = record {
  element = gap_element kind (length before);
  area = before;
  is = none_taken kind width (gap_element kind (length before)) before None refl refl wide below;
}
taken kind width before (Some value) wide fits held range below =
    let area = before ++ value_bytes value in
    let element = element_for kind width (length area) value in
    record {
      element = element;
      area = area;
      is = found_taken kind width element before area (Some value) value refl refl refl wide fits held (at_most value range) (λ units is. subst IsValueInRange is range) below;
    }

-- ---- a record

record FieldsPut (fields : List Field) (widths old_first : List ℕ) (old_areas : List (List ℕ)) (values : List Value) (place index : ℕ) : Type 0 where
  first : List ℕ
  areas : List (List ℕ)
  are : AreWords first
  put : PutSoFar fields widths old_first old_areas values first areas place index (place * sum widths + sum (take index widths))

range_at : (values : List Value) (index : ℕ) → All IsValueInRange values → IfSome (slice_get values index) IsValueInRange
range_at [] index all = tt
range_at (value ∷ rest) zero all = all 0 value (omega arith)
range_at (value ∷ rest) (suc index) all = range_at rest index (λ k d inside. all (suc k) d (omega arith))

fields_put : (fields : List Field) (widths old_first : List ℕ) (old_areas : List (List ℕ)) (place : ℕ) (values : List Value) (index : ℕ) → Room fields widths old_first old_areas place values
    → All IsValueInRange values → AreWords old_first → index ≤ length fields → FieldsPut fields widths old_first old_areas values place index
fields_put fields widths old_first old_areas place values zero room range are past = record {
  first = old_first;
  areas = old_areas;
  are = are;
  put = put_none fields widths old_first old_areas values place (place * sum widths + sum (take 0 widths)) (sum widths) refl (omega arith);
}
fields_put fields widths old_first old_areas place values (suc index) room range are past =
    let before = fields_put fields widths old_first old_areas place values index room range are (omega arith) in
    let none : Field = record { name = []; kind = FieldKind.Int } in
    let inside : index < length fields = omega arith in
    let field = get_or fields index none in
    let is : field ≡ get_or fields index field = get_or_default fields index none field inside in
    let width = get_or widths index 0 in
    let at = place * sum widths + sum (take index widths) in
    let here = before.put.left index (omega arith) in
    let value =
    taken field.kind width (area_of before.areas index) (slice_get values index) (wide_at fields widths old_first old_areas place index field room.holds inside is) (room.fits index field inside is)
    (room.numbers index) (range_at values index range)
    (λ has. subst (λ (area : List ℕ). length area + length (values_bytes (value_at index values)) < 2 ^ (width - 1)) (sym here) (room.ends index field inside is has)) in
    let held = (within fields widths old_first old_areas place index (sum (take index widths)) room.holds inside refl).words_hold in
    let long = before.put.long in
    let put = sets before.first at width value.element before.are (omega arith) value.is.below in
    let more =
    put_more fields widths old_first old_areas values before.first put.words before.areas place index at value.element width value.area field before.put room.holds room.follows inside is refl value.is
    put.block (block_is before.first put.words at width value.element value.is.below put.block) (block_apart before.first put.words at width value.element value.is.below put.block) put.long in
    let next : index + 1 ≡ suc index = omega arith in
    let areas = set before.areas index value.area in
    record {
      first = put.words;
      areas = areas;
      are = put.are;
      put = subst (λ (n : ℕ). PutSoFar fields widths old_first old_areas values put.words areas place n (place * sum widths + sum (take n widths))) next
          (subst (λ (n : ℕ). PutSoFar fields widths old_first old_areas values put.words areas place (index + 1) n) more.position more);
    }

-- ---- all places

-- the numbers of the rows of all places are in range
abbrev pub AreInRange : List (Option Row) → Type 0
AreInRange rows = All (λ row. IfSome row IsRowInRange) rows

values_in_range : (row : Option Row) → IfSome row IsRowInRange → All IsValueInRange (values_of_place row)
values_in_range None range = λ k d inside. absurd (omega arith)
values_in_range (Some (Row.Object values)) range = range
values_in_range (Some (Row.List ordinals)) range = λ k d inside. absurd (omega arith)
values_in_range (Some (Row.Set ordinals)) range = λ k d inside. absurd (omega arith)
values_in_range (Some (Row.Map pairs)) range = λ k d inside. absurd (omega arith)

record PlacesPut (shape : Shape) (widths : List ℕ) (rows : List (Option Row)) (count : ℕ) : Type 0 where
  first : List ℕ
  areas : List (List ℕ)
  are : AreWords first
  so_far : PackedSoFar shape widths rows first areas count

places_put : (shape : Shape) (widths : List ℕ) (rows : List (Option Row)) (count : ℕ) → CanPack shape widths rows → AreInRange rows → count ≤ length rows → PlacesPut shape widths rows count
places_put shape widths rows zero can range past =
    let bits = words_of (length rows * sum widths) in
    record {
      first = replicate bits 0;
      areas = replicate (length (shape_fields shape)) [];
      are = zero_words bits;
      so_far = packed_none shape widths rows (replicate bits 0) (replicate (length (shape_fields shape)) []) can refl refl;
    }
places_put shape widths rows (suc place) can range past =
    let before = places_put shape widths rows place can range (omega arith) in
    let inside : place < length rows = omega arith in
    let row = get_or rows place None in
    let is : row ≡ get_or rows place row = get_or_default rows place None row inside in
    let has = place_room shape widths rows before.first before.areas place row can before.so_far inside is in
    let fields = shape_fields shape in
    let values = values_of_place row in
    let made =
    fields_put fields widths before.first before.areas place values (length fields) (room shape fields widths before.first before.areas place row values has refl refl)
    (values_in_range row (range place None inside)) before.are (omega arith) in
    let put =
    row_put shape fields widths before.first before.areas values made.first made.areas place (length fields) (place * sum widths + sum (take (length fields) widths)) row has refl refl (omega arith)
    made.put in
    let next : place + 1 ≡ suc place = omega arith in
    record {
      first = made.first;
      areas = made.areas;
      are = made.are;
      so_far = subst (λ (n : ℕ). PackedSoFar shape widths rows made.first made.areas n) next
          (packed_more shape widths rows before.first made.first before.areas made.areas place row before.so_far inside is put made.put.long);
    }

-- words and bytes of records
pub record PacksRecords (shape : Shape) (widths : List ℕ) (rows : List (Option Row)) : Type 0 where
  pub first : List ℕ
  pub areas : List (List ℕ)
  pub are : AreWords first
  pub packed : IsPacked shape widths rows first areas

pub packs_records : (shape : Shape) (widths : List ℕ) (rows : List (Option Row)) → CanPack shape widths rows → AreInRange rows → PacksRecords shape widths rows
packs_records shape widths rows can range =
    let all = places_put shape widths rows (length rows) can range (omega arith) in
    record {
      first = all.first;
      areas = all.areas;
      are = all.are;
      packed = packed_all shape widths rows all.first all.areas (length rows) can all.so_far refl;
    }
