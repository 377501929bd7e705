-- Lemmas on records that are laid out: the widths hold those of all places, and what is packed of them are the rows of the half.
use Rattle.std.proofs.Common.{◌≡◌, ℕ, zero, suc, ◌+◌, ◌-◌, ◌*◌, ◌^◌, ◌<◌, List, [], ◌∷◌, length, Bool, true, false, Option, Some, None, refl, sym, ap, ◌∙◌, subst, arith, append-nil}
use Rattle.std.specs.Prelude.{IfSome, IsSomeAnd, MatchOption, ℤ, map, replicate, slice_get, slice_index, sum, sum_by, if◌then◌else◌}
use Rattle.std.specs.Option.{option_map_or, option_to_list}
use Rattle.std.specs.List.{AllZip, enumerate_from, range_with_len}
use Rattle.std.specs.FinMap.{get, values}
use Rattle.std.proofs.lemmas.List.Sums.{sum_by-cons}
use Rattle.std.proofs.lemmas.Slice.Zip.{AllZip-right}
use Rattle.bit_array.specs.Element.{words_of}
use Rattle.schema_model.specs.declared.schema.Field.{Field}
use Rattle.schema_model.specs.declared.schema.FieldKind.{FieldKind}
use Rattle.schema_model.specs.declared.schema.Shape.{Shape}
use Rattle.schema_model.specs.Parts.{shape_fields}
use Rattle.row_model.specs.declared.row.Row.{Row}
use Rattle.row_model.specs.declared.row.Value.{Value}
use Rattle.row_model.specs.Row.{FitsKind, FitsShape, is_least}
use Rattle.row_model.specs.Table.{RowMap}
use Rattle.object_codec.specs.ObjectPlace.{IsObject, SpellsObjectRow}
use Rattle.object_codec.specs.Packing.{CanPack, HasBytes, HasRoom, HoldsValue, IsPacked, IsRowPut, IsWidthFor, PacksPlace, areas_for, values_of_place}
use Rattle.object_codec.specs.Stored.{values_of_row, value_at, column, element_number, values_bytes, value_bytes as bytes_of_value}
use Rattle.object_codec.specs.Widths.{byte_count}
use Rattle.object_codec.proofs.PlacesPacked.{PackedSoFar, packed_none, place_room, packed_more, packed_all}
use Rattle.object_codec.proofs.ByteCounts.{byte_count-append}
use Rattle.type_rows.specs.Holds.{FitsWidth, FitsRow, HoldsRow}
use Rattle.type_rows.specs.Layout.{places_of}
use Rattle.type_rows.specs.WellFormed.{IsWidth}
use Rattle.type_rows.specs.WordsHeld.{value_bytes, part_bytes, field_bytes}
use Rattle.type_rows.proofs.ValueBytes.{value_count}
use Rattle.packed_half.specs.declared.half.HalfShape.{HalfShape}
use Rattle.packed_half.specs.LaidOut.{IsTight}
use Rattle.packed_half.specs.Laying.{CanLay, ArePlaced, places_in, parts_in}
use Rattle.packed_half.proofs.Holding.{each_held, all_held, none_below}
use Rattle.packed_half.proofs.RowPlaces.{all_values, at_place, place_at, place_is, place_or, placed_in, places_long, row_of, sum_places, values_places}

-- ---- the bytes of a field

option_count : (value : Option Value) → byte_count (option_to_list value) ≡ option_map_or value_bytes value 0
option_count None = refl
option_count (Some value) = ap (λ (bytes : List ℕ). length bytes) (append-nil (bytes_of_value value)) ∙ value_count value

part_count : (field : ℕ) (row : Row) → byte_count (value_at field (values_of_row row)) ≡ part_bytes field row
part_count field (Row.Object values) = option_count (slice_get values field)
part_count field (Row.List ordinals) = refl
part_count field (Row.Set ordinals) = refl
part_count field (Row.Map pairs) = refl

place_count : (field : ℕ) (row : Option Row) → byte_count (value_at field (values_of_place row)) ≡ at_place (part_bytes field) row
place_count field None = refl
place_count field (Some row) = part_count field row

column_places : (field : ℕ) (places : List (Option Row)) → byte_count (column field (map values_of_place places)) ≡ sum_by (at_place (part_bytes field)) places
column_places field [] = refl
column_places field (row ∷ rows) =
    byte_count-append (value_at field (values_of_place row)) (column field (map values_of_place rows))
    ∙ omega (arith, place_count field row, column_places field rows, sum_by-cons (at_place (part_bytes field)) row rows)

-- ---- what the widths hold of a value

least_or_not : (bits width : ℕ) (number : ℤ) (value : Value) (b : Bool) → IfSome (element_number value) (λ n. n < 2 ^ width - 1) → IfSome (element_number (if b then Value.Null else value)) (λ n. n < 2 ^ width - 1)
least_or_not bits width number value true h = tt
least_or_not bits width number value false h = h

flag_holds : (width : ℕ) (flag : Bool) → width ≡ 2 → (if flag then 1 else 0) < 2 ^ width - 1
flag_holds width true two = subst (λ (w : ℕ). 1 < 2 ^ w - 1) (sym two) (omega arith)
flag_holds width false two = subst (λ (w : ℕ). 0 < 2 ^ w - 1) (sym two) (omega arith)

value_holds : (kind : FieldKind) (width end : ℕ) (value : Value) → FitsKind kind value → FitsWidth kind width end value → HoldsValue width value
value_holds (FieldKind.Reference name) width end Value.Null fits h = tt
value_holds (FieldKind.Reference name) width end (Value.Ref ordinal) fits h = h
value_holds FieldKind.Int width end Value.Null fits h = tt
value_holds FieldKind.Int width end (Value.Int number) fits h = least_or_not 32 width number (Value.Int number) (is_least 32 number) h
value_holds FieldKind.Long width end Value.Null fits h = tt
value_holds FieldKind.Long width end (Value.Long number) fits h = least_or_not 64 width number (Value.Long number) (is_least 64 number) h
value_holds FieldKind.Boolean width end Value.Null fits h = tt
value_holds FieldKind.Boolean width end (Value.Bool flag) fits h = flag_holds width flag h
value_holds FieldKind.Text width end Value.Null fits h = tt
value_holds FieldKind.Text width end (Value.Text units) fits h = tt
value_holds FieldKind.Bytes width end Value.Null fits h = tt
value_holds FieldKind.Bytes width end (Value.Bytes bytes) fits h = tt
value_holds _ width end value fits h = absurd fits

abbrev HoldsNumbers : List ℕ → Row → Type 0
HoldsNumbers widths row = (index : ℕ) → IfSome (slice_get (values_of_row row) index) (HoldsValue (slice_index widths index))

numbers_hold : (key : Option (List (List ℕ))) (fields : List Field) (widths : List ℕ) (ends : ℕ → ℕ) (items : ℕ) (row : Row) → FitsRow (Shape.Object key fields) widths ends items row
    → FitsShape (Shape.Object key fields) row → HoldsNumbers widths row
numbers_hold key fields widths ends items (Row.List ordinals) held fits = absurd fits
numbers_hold key fields widths ends items (Row.Set ordinals) held fits = absurd fits
numbers_hold key fields widths ends items (Row.Map pairs) held fits = absurd fits
numbers_hold key fields widths ends items (Row.Object values) held fits =
    λ index. by_value index (slice_get values index) refl (AllZip-right (λ f v. FitsKind f.kind v) fields values fits index)
  where
    with_field : (index : ℕ) (value : Value) (field : Option Field) → slice_get values index ≡ Some value → slice_get fields index ≡ field → IsSomeAnd field (λ f. FitsKind f.kind value)
        → HoldsValue (slice_index widths index) value
    with_field index value None at found kind = absurd kind
    with_field index value (Some field) at found kind = value_holds field.kind (slice_index widths index) (ends index) value kind (held index field value found at)

    by_value : (index : ℕ) (value : Option Value) → slice_get values index ≡ value → MatchOption value (Unit {0}) (λ v. IsSomeAnd (slice_get fields index) (λ f. FitsKind f.kind v))
        → IfSome value (HoldsValue (slice_index widths index))
    by_value index None at kind = tt
    by_value index (Some value) at kind = with_field index value (slice_get fields index) at refl kind

-- ---- what they hold of the bytes of a field

-- a record has a value for each field
value_there : (fields : List Field) (values : List Value) (index : ℕ) (field : Field) → AllZip (λ f value. FitsKind f.kind value) fields values → slice_get fields index ≡ Some field
    → (value : Value) × (slice_get values index ≡ Some value)
value_there [] values index field fits at = absurd cc
value_there (f ∷ fs) [] index field fits at = absurd fits
value_there (f ∷ fs) (v ∷ vs) zero field fits at = (v, refl)
value_there (f ∷ fs) (v ∷ vs) (suc index) field fits at = value_there fs vs index field fits.1 at

end_holds : (kind : FieldKind) (width end : ℕ) (value : Value) → HasBytes kind → FitsWidth kind width end value → end < 2 ^ (width - 1)
end_holds FieldKind.Text width end value has h = h
end_holds FieldKind.Bytes width end value has h = h
end_holds _ width end value has h = absurd has

ends_hold : (key : Option (List (List ℕ))) (fields : List Field) (widths : List ℕ) (index : ℕ) (field : Field) → slice_get fields index ≡ Some field → HasBytes field.kind → (rows : List Row) (row : Row)
    → FitsShape (Shape.Object key fields) row → HoldsRow (Shape.Object key fields) widths rows row → field_bytes index rows < 2 ^ (slice_index widths index - 1)
ends_hold key fields widths index field at has rows (Row.Object values) fits held =
    let there = value_there fields values index field fits at in
    end_holds field.kind (slice_index widths index) (field_bytes index rows) there.0 has (held index field there.0 at there.1)
ends_hold key fields widths index field at has rows (Row.List ordinals) fits held = absurd fits
ends_hold key fields widths index field at has rows (Row.Set ordinals) fits held = absurd fits
ends_hold key fields widths index field at has rows (Row.Map pairs) fits held = absurd fits

-- ---- the widths

wide_for : (max : Option ℕ) (fields : List Field) (widths : List ℕ) (places : List (Option Row)) → length places ≡ places_of max → AllZip (λ (field : Field) width. IsWidth max field.kind width) fields widths
    → AllZip (IsWidthFor places) fields widths
wide_for None fields widths [] long h = h
wide_for None fields widths (place ∷ places) long h = absurd (omega arith)
wide_for (Some max) fields widths [] long h = absurd (omega arith)
wide_for (Some max) fields widths (place ∷ places) long h = h

-- ---- the places

records_can : (key : Option (List (List ℕ))) (fields : List Field) (half : HalfShape) (rows : RowMap) → CanLay (Shape.Object key fields) half rows
    → CanPack (Shape.Object key fields) half.widths (places_in rows (places_of half.max))
records_can key fields half rows can = record {
  object = tt;
  few = can.many;
  wide = wide_for half.max fields half.widths (places_in rows (places_of half.max)) (places_long rows (places_of half.max)) can.wide;
  places = let long = places_long rows (places_of half.max) in let few = can.few in omega arith;
  fit = λ place row at. can.fits place row (sym (place_is rows (places_of half.max) place (Some row) at));
  numbers = λ place index row at. by_row place index row (sym (place_is rows (places_of half.max) place row at));
  ends = λ index field at has.
      let count =
      column_places index (places_in rows (places_of half.max))
      ∙ sum_places (part_bytes index) (at_place (part_bytes index)) (λ row. refl) (places_in rows (places_of half.max))
      ∙ ap (λ (rs : List Row). field_bytes index rs) (sym (values_places rows (places_of half.max) can.held.places)) in
      subst (λ (n : ℕ). n < 2 ^ (slice_index half.widths index - 1)) (sym count)
      (all_held (Shape.Object key fields) half.widths (FitsShape (Shape.Object key fields)) (λ rs. field_bytes index rs < 2 ^ (slice_index half.widths index - 1))
      (ends_hold key fields half.widths index field at has) [] (values rows) (none_below (slice_index half.widths index - 1)) (all_values (FitsShape (Shape.Object key fields)) rows can.fits) can.held.parts);
}
  where
    by_row : (place index : ℕ) (row : Option Row) → get rows place ≡ row → IfSome (slice_get (values_of_place row) index) (HoldsValue (slice_index half.widths index))
    by_row place index None is = tt
    by_row place index (Some row) is =
        row_of (λ r. FitsShape (Shape.Object key fields) r → HoldsNumbers half.widths r) rows place row
        (each_held (Shape.Object key fields) half.widths (λ r. FitsShape (Shape.Object key fields) r → HoldsNumbers half.widths r) (numbers_hold key fields half.widths) [] (values rows) can.held.parts)
        is (can.fits place row is) index

pub can_pack : (shape : Shape) (half : HalfShape) (rows : RowMap) → IsObject shape → CanLay shape half rows → CanPack shape half.widths (places_in rows (places_of half.max))
can_pack (Shape.Object key fields) half rows object can = records_can key fields half rows can
can_pack (Shape.List element) half rows object can = absurd object
can_pack (Shape.Set element) half rows object can = absurd object
can_pack (Shape.Map key value) half rows object can = absurd object

module _ (shape : Shape) (half : HalfShape) (rows : RowMap) (object : IsObject shape) (can : CanLay shape half rows) where
  pub records_begun : (widths first : List ℕ) (areas : List (List ℕ)) → widths ≡ half.widths → first ≡ replicate (words_of (places_of half.max * sum half.widths)) 0
      → areas ≡ replicate (length (shape_fields shape)) [] → PackedSoFar shape widths (places_in rows (places_of half.max)) first areas 0
  records_begun widths first areas same zeros none =
      subst (λ (ws : List ℕ). PackedSoFar shape ws (places_in rows (places_of half.max)) first areas 0) (sym same)
      (packed_none shape half.widths (places_in rows (places_of half.max)) first areas (can_pack shape half rows object can)
      (subst (λ (n : ℕ). first ≡ replicate (words_of (n * sum half.widths)) 0) (sym (places_long rows (places_of half.max))) zeros) none)

  pub record_room : (widths first : List ℕ) (areas : List (List ℕ)) (place : ℕ) (row : Option Row) → widths ≡ half.widths → PackedSoFar shape widths (places_in rows (places_of half.max)) first areas place
      → place < places_of half.max → row ≡ get rows place → HasRoom shape widths first areas place row
  record_room widths first areas place row same done inside is =
      place_room shape widths (places_in rows (places_of half.max)) first areas place row
      (subst (λ (ws : List ℕ). CanPack shape ws (places_in rows (places_of half.max))) (sym same) (can_pack shape half rows object can)) done
      (let long = places_long rows (places_of half.max) in omega arith) (is ∙ place_or rows (places_of half.max) place row inside)

  pub record_more : (widths first first' : List ℕ) (areas areas' : List (List ℕ)) (place : ℕ) (row : Option Row) → PackedSoFar shape widths (places_in rows (places_of half.max)) first areas place
      → place < places_of half.max → row ≡ get rows place → IsRowPut shape widths first areas first' areas' place row → length first' ≡ length first
      → PackedSoFar shape widths (places_in rows (places_of half.max)) first' areas' (place + 1)
  record_more widths first first' areas areas' place row done inside is put long =
      packed_more shape widths (places_in rows (places_of half.max)) first first' areas areas' place row done (let all = places_long rows (places_of half.max) in omega arith)
      (is ∙ place_or rows (places_of half.max) place row inside) put long

  pub records_done : (widths first : List ℕ) (areas : List (List ℕ)) (place : ℕ) → widths ≡ half.widths → PackedSoFar shape widths (places_in rows (places_of half.max)) first areas place → place ≡ places_of half.max
      → IsPacked shape half.widths (places_in rows (places_of half.max)) first areas
  records_done widths first areas place same done all =
      packed_all shape half.widths (places_in rows (places_of half.max)) first areas place (can_pack shape half rows object can)
      (subst (λ (ws : List ℕ). PackedSoFar shape ws (places_in rows (places_of half.max)) first areas place) same done) (all ∙ sym (places_long rows (places_of half.max)))

-- ---- the lengths of the fields

mapped_lengths : (n : ℕ) (fields : List Field) (f : ℕ × Field → List ℕ) (g : ℕ → ℕ) → ((k : ℕ) (field : Field) → length (f (k, field)) ≡ g k)
    → map (λ (area : List ℕ). length area) (map f (enumerate_from n fields)) ≡ map g (range_with_len n (length fields))
mapped_lengths n [] f g same = refl
mapped_lengths n (field ∷ fields) f g same =
    ap (λ (k : ℕ). k ∷ map (λ (area : List ℕ). length area) (map f (enumerate_from (n + 1) fields))) (same n field)
    ∙ ap (λ (ks : List ℕ). g n ∷ ks) (mapped_lengths (n + 1) fields f g same)

-- the bytes of the fields are as many as the half says
lengths_are : (shape : Shape) (half : HalfShape) (rows : RowMap) (areas : List (List ℕ)) → CanLay shape half rows → areas ≡ areas_for (shape_fields shape) (places_in rows (places_of half.max))
    → map (λ (area : List ℕ). length area) areas ≡ half.lengths
lengths_are shape half rows areas can are =
    ap (λ (bytes : List (List ℕ)). map (λ (area : List ℕ). length area) bytes) are
    ∙ mapped_lengths 0 (shape_fields shape) (λ part. values_bytes (column part.0 (map values_of_place (places_in rows (places_of half.max))))) (λ f. field_bytes f (values rows))
    (λ k field.
    column_places k (places_in rows (places_of half.max))
    ∙ sum_places (part_bytes k) (at_place (part_bytes k)) (λ row. refl) (places_in rows (places_of half.max))
    ∙ ap (λ (rs : List Row). field_bytes k rs) (sym (values_places rows (places_of half.max) can.held.places)))
    ∙ sym can.lengths

pub packed_lengths : (shape : Shape) (half : HalfShape) (rows : RowMap) (first : List ℕ) (lent areas : List (List ℕ)) → CanLay shape half rows → lent ≡ areas
    → IsPacked shape half.widths (places_in rows (places_of half.max)) first areas → map (λ (area : List ℕ). length area) lent ≡ half.lengths
packed_lengths shape half rows first lent areas can same packed = lengths_are shape half rows lent can (same ∙ packed.bytes)

-- ---- what is packed of all places are the rows of the half

placed : (key : Option (List (List ℕ))) (fields : List Field) (half : HalfShape) (rows : RowMap) → CanLay (Shape.Object key fields) half rows → (first second : List ℕ) (areas : List (List ℕ))
    → IsPacked (Shape.Object key fields) half.widths (places_in rows (places_of half.max)) first areas → ArePlaced (Shape.Object key fields) half rows first second areas
placed key fields half rows can first second areas packed =
    record {
      spelled = λ ordinal row found.
          let at = place_at rows (places_of half.max) ordinal (placed_in rows (places_of half.max) ordinal row can.held.places found) ∙ ap Some found in
          subst (SpellsObjectRow (Shape.Object key fields) half.widths first areas ordinal) (can.stored ordinal row found) (packed.spelled ordinal (Some row) at);
      tight = λ place inside. tight_at place (get rows place) (packed.spelled place (get rows place) (place_at rows (places_of half.max) place inside));
    }
  where
    tight_at : (place : ℕ) (row : Option Row) → PacksPlace (Shape.Object key fields) half.widths first areas place row → IsTight (Shape.Object key fields) (parts_in half first second areas) place row
    tight_at place None h = h
    tight_at place (Some row) h = tt

pub records_placed : (shape : Shape) (half : HalfShape) (rows : RowMap) → IsObject shape → CanLay shape half rows → (first second : List ℕ) (areas : List (List ℕ))
    → IsPacked shape half.widths (places_in rows (places_of half.max)) first areas → ArePlaced shape half rows first second areas
records_placed (Shape.Object key fields) half rows object can first second areas packed = placed key fields half rows can first second areas packed
records_placed (Shape.List element) half rows object can first second areas packed = absurd object
records_placed (Shape.Set element) half rows object can first second areas packed = absurd object
records_placed (Shape.Map key value) half rows object can first second areas packed = absurd object
