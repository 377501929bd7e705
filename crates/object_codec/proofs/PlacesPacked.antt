-- Lemmas on the places that are packed one after the other.
use Rattle.std.proofs.Common.{◌≡◌, ℕ, zero, suc, ◌+◌, ◌-◌, ◌*◌, ◌^◌, ◌<◌, ◌≤◌, List, [], ◌∷◌, ◌++◌, length, get_or, take, refl, sym, ap, ◌∙◌, subst, arith, append-nil, append_assoc, inl, inr}
use Rattle.std.specs.Prelude.{sum, map, replicate, slice_get, IfSome, Option, Some, None}
use Rattle.std.specs.Option.{option_to_list}
use Rattle.std.specs.List.{AllZip, enumerate_from}
use Rattle.std.proofs.Math.Nat.{mul-le-mul, mul-le-mul_right}
use Rattle.std.proofs.lemmas.Bool.{cases_lt}
use Rattle.std.proofs.lemmas.Grind.{flat_map-append}
use Rattle.std.proofs.lemmas.List.{take_all, take_more}
use Rattle.std.proofs.lemmas.Nat.{pow_pos}
use Rattle.std.proofs.lemmas.Option.{slice_get_read, slice_get_within, get_or_from_slice_get}
use Rattle.std.proofs.lemmas.Slice.Zip.{AllZip-long}
use Rattle.bit_array.specs.Element.{number_of, words_of}
use Rattle.bit_array.proofs.ZeroWords.{zeros_long, zeros_none}
use Rattle.row_model.specs.Areas.{area_of}
use Rattle.schema_model.specs.Parts.{shape_fields}
use Rattle.row_model.specs.Row.{FitsKind, FitsShape, stored_row}
use Rattle.schema_model.specs.declared.schema.FieldKind.{FieldKind}
use Rattle.schema_model.specs.declared.schema.Field.{Field}
use Rattle.schema_model.specs.declared.schema.Shape.{Shape}
use Rattle.row_model.specs.declared.row.Row.{Row}
use Rattle.row_model.specs.declared.row.Value.{Value}
use Rattle.object_codec.specs.ObjectPlace.{IsFieldWidth}
use Rattle.object_codec.specs.Packing.{HasBytes, PacksPlace, HasRoom, IsRowPut, StartsAtEnds, CanPack, IsPacked, values_of_place, areas_with, areas_for, IsWidthFor}
use Rattle.object_codec.specs.Stored.{value_at, value_bytes, values_bytes, column}
use Rattle.object_codec.proofs.FieldParts.{zip_all, areas_from}
use Rattle.object_codec.proofs.FieldWidths.{fields_small}
use Rattle.object_codec.proofs.RowPuts.{fits_at}
use Rattle.object_codec.proofs.ByteCounts.{byte_count-append}

abbrev pub Place : Type 0
Place = Option Row

-- the row that is lent of a place is the one there
pub lent_is : (rows : List Place) (place : ℕ) (row lent : Place) → slice_get rows place ≡ Some lent → row ≡ lent → row ≡ get_or rows place row
lent_is rows place row lent there is = is ∙ sym (get_or_from_slice_get rows place lent row there)

-- ---- the bytes of the fields

column_push : (index : ℕ) (rows : List Place) (row : Place) → column index (map values_of_place (rows ++ row ∷ [])) ≡ column index (map values_of_place rows) ++ value_at index (values_of_place row)
column_push index [] row = append-nil (value_at index (values_of_place row))
column_push index (r ∷ rows) row =
    ap (λ (values : List Value). value_at index (values_of_place r) ++ values) (column_push index rows row)
    ∙ sym (append_assoc (value_at index (values_of_place r)) (column index (map values_of_place rows)) (value_at index (values_of_place row)))

-- the bytes of the fields from an index on
abbrev bytes_from : ℕ → List Field → List Place → List (List ℕ)
bytes_from n fields rows = map (λ part. values_bytes (column part.0 (map values_of_place rows))) (enumerate_from n fields)

bytes_push : (n : ℕ) (fields : List Field) (rows : List Place) (row : Place) → areas_from n (bytes_from n fields rows) (values_of_place row) ≡ bytes_from n fields (rows ++ row ∷ [])
bytes_push n [] rows row = refl
bytes_push n (field ∷ fields) rows row =
    ap (λ (rest : List (List ℕ)). (values_bytes (column n (map values_of_place rows)) ++ values_bytes (value_at n (values_of_place row))) ∷ rest) (bytes_push (n + 1) fields rows row)
    ∙ ap (λ (bytes : List ℕ). bytes ∷ bytes_from (n + 1) fields (rows ++ row ∷ []))
    (sym (flat_map-append value_bytes (column n (map values_of_place rows)) (value_at n (values_of_place row))) ∙ sym (ap values_bytes (column_push n rows row)))

bytes_at : (n : ℕ) (fields : List Field) (rows : List Place) (k : ℕ) → k < length fields → area_of (bytes_from n fields rows) k ≡ values_bytes (column (n + k) (map values_of_place rows))
bytes_at n [] rows k inside = absurd (omega arith)
bytes_at n (field ∷ fields) rows zero inside = let e : n ≡ n + 0 = omega arith in ap (λ (i : ℕ). values_bytes (column i (map values_of_place rows))) e
bytes_at n (field ∷ fields) rows (suc k) inside =
    let e : n + 1 + k ≡ n + suc k = omega arith in
    bytes_at (n + 1) fields rows k (omega arith) ∙ ap (λ (i : ℕ). values_bytes (column i (map values_of_place rows))) e

length-bytes_from : (n : ℕ) (fields : List Field) (rows : List Place) → length (bytes_from n fields rows) ≡ length fields
length-bytes_from n [] rows = refl
length-bytes_from n (field ∷ fields) rows = ap suc (length-bytes_from (n + 1) fields rows)

bytes_of_none : (n : ℕ) (fields : List Field) → replicate (length fields) [] ≡ bytes_from n fields []
bytes_of_none n [] = refl
bytes_of_none n (field ∷ fields) = ap (λ (rest : List (List ℕ)). [] ∷ rest) (bytes_of_none (n + 1) fields)

-- some of the places have no more bytes than all
column_le : (index count : ℕ) (rows : List Place) → length (values_bytes (column index (map values_of_place (take count rows)))) ≤ length (values_bytes (column index (map values_of_place rows)))
column_le index zero rows = omega arith
column_le index (suc count) [] = omega arith
column_le index (suc count) (row ∷ rows) =
    let here = value_at index (values_of_place row) in
    omega (arith, byte_count-append here (column index (map values_of_place (take count rows))), byte_count-append here (column index (map values_of_place rows)), column_le index count rows)

-- ---- fields without bytes

no_value_bytes : (kind : FieldKind) (value : Value) → FitsKind kind value → (HasBytes kind → ⊥) → value_bytes value ≡ []
no_value_bytes FieldKind.Text value fits none = absurd (none tt)
no_value_bytes FieldKind.Bytes value fits none = absurd (none tt)
no_value_bytes _ (Value.Text units) fits none = absurd fits
no_value_bytes _ (Value.Bytes bytes) fits none = absurd fits
no_value_bytes _ _ fits none = refl

no_bytes_found : (kind : FieldKind) (found : Option Value) → IfSome found (FitsKind kind) → (HasBytes kind → ⊥) → values_bytes (option_to_list found) ≡ []
no_bytes_found kind None fits none = refl
no_bytes_found kind (Some value) fits none = append-nil (value_bytes value) ∙ no_value_bytes kind value fits none

no_column_bytes : (index : ℕ) (kind : FieldKind) (rows : List Place) → ((place : ℕ) (row : Place) → slice_get rows place ≡ Some row → IfSome (slice_get (values_of_place row) index) (FitsKind kind))
    → (HasBytes kind → ⊥) → values_bytes (column index (map values_of_place rows)) ≡ []
no_column_bytes index kind [] fit none = refl
no_column_bytes index kind (row ∷ rows) fit none =
    flat_map-append value_bytes (value_at index (values_of_place row)) (column index (map values_of_place rows))
    ∙ ap (λ (bytes : List ℕ). bytes ++ values_bytes (column index (map values_of_place rows))) (no_bytes_found kind (slice_get (values_of_place row) index) (fit 0 row refl) none)
    ∙ no_column_bytes index kind rows (λ place found there. fit (suc place) found there) none

-- ---- the places

-- where there is a place, the widths are those of the kinds
wide_where : (rows : List Place) (place : ℕ) (fields : List Field) (widths : List ℕ) → place < length rows → AllZip (IsWidthFor rows) fields widths → AllZip IsFieldWidth fields widths
wide_where [] place fields widths inside wide = absurd (omega arith)
wide_where (row ∷ rows) place fields widths inside wide = wide

narrow_for : (rows : List Place) (field : Field) (width : ℕ) → IsWidthFor rows field width → width ≤ 64
narrow_for [] field width is = is
narrow_for (row ∷ rows) field width is = is.0

-- the places before this one are packed
pub record PackedSoFar (shape : Shape) (widths : List ℕ) (rows : List Place) (first : List ℕ) (areas : List (List ℕ)) (place : ℕ) : Type 0 where
  pub spelled : (before : ℕ) (row : Place) → before < place → slice_get rows before ≡ Some row → PacksPlace shape widths first areas before row
  pub bytes : areas ≡ areas_for (shape_fields shape) (take place rows)
  pub words : length first ≡ words_of (length rows * sum widths)
  pub follows : StartsAtEnds (shape_fields shape) widths first areas place
  pub bits : number_of first < 2 ^ (place * sum widths)

pub packed_none : (shape : Shape) (widths : List ℕ) (rows : List Place) (first : List ℕ) (areas : List (List ℕ)) → CanPack shape widths rows → first ≡ replicate (words_of (length rows * sum widths)) 0
    → areas ≡ replicate (length (shape_fields shape)) [] → PackedSoFar shape widths rows first areas 0
packed_none shape widths rows first areas can zeros none =
    let fields = shape_fields shape in
    let bytes : areas ≡ bytes_from 0 fields [] = none ∙ bytes_of_none 0 fields in
    let nothing = zeros_none first (words_of (length rows * sum widths)) zeros in
    record {
      spelled = λ before row earlier. absurd (omega arith);
      bytes = bytes;
      words = zeros_long first (words_of (length rows * sum widths)) zeros;
      follows = zip_all (λ field part. HasBytes field.kind → part.start ≡ length part.area) fields widths first areas (sum widths) 0 0 (AllZip-long (IsWidthFor rows) fields widths can.wide)
          (ap (λ (a : List (List ℕ)). length a) bytes ∙ length-bytes_from 0 fields [])
          (λ k field inside is has. sym (ap (λ (a : List (List ℕ)). length (area_of a k)) bytes ∙ ap (λ (bs : List ℕ). length bs) (bytes_at 0 fields [] k inside)));
      bits = subst (λ n. n < 2 ^ (0 * sum widths)) (sym nothing) (pow_pos (0 * sum widths));
    }

-- the bytes with those of one place more
bytes_more : (fields : List Field) (rows : List Place) (place : ℕ) (row : Place) (areas : List (List ℕ)) → areas ≡ areas_for fields (take place rows) → place < length rows → row ≡ get_or rows place row
    → areas_with areas (values_of_place row) ≡ areas_for fields (take (place + 1) rows)
bytes_more fields rows place row areas bytes inside is =
    ap (λ (a : List (List ℕ)). areas_with a (values_of_place row)) bytes
    ∙ bytes_push 0 fields (take place rows) row
    ∙ ap (λ (rs : List Place). areas_for fields rs) (ap (λ (r : Place). take place rows ++ r ∷ []) is ∙ sym (take_more rows place row inside))

fits_place : (shape : Shape) (rows : List Place) (place : ℕ) (row : Place) → ((found : Row) → slice_get rows place ≡ Some (Some found) → FitsShape shape found) → slice_get rows place ≡ Some row
    → IfSome row (FitsShape shape)
fits_place shape rows place None fit there = tt
fits_place shape rows place (Some row) fit there = fit row there

pub place_room : (shape : Shape) (widths : List ℕ) (rows : List Place) (first : List ℕ) (areas : List (List ℕ)) (place : ℕ) (row : Place) → CanPack shape widths rows
    → PackedSoFar shape widths rows first areas place → place < length rows → row ≡ get_or rows place row → HasRoom shape widths first areas place row
place_room shape widths rows first areas place row can done inside is =
    let fields = shape_fields shape in
    let there = slice_get_read rows (length rows) place row refl inside is in
    let wide = AllZip-long (IsWidthFor rows) fields widths can.wide in
    let next : (place + 1) * sum widths ≤ length rows * sum widths = mul-le-mul_right (sum widths) (let h : place + 1 ≤ length rows = omega arith in h) in
    let grown = bytes_more fields rows place row areas done.bytes inside is in
    let filled = ap (λ (a : List (List ℕ)). length a) grown ∙ length-bytes_from 0 fields (take (place + 1) rows) in
    record {
      object = can.object;
      holds = record {
        few = can.few;
        wide = wide_where rows place fields widths inside can.wide;
        filled = ap (λ (a : List (List ℕ)). length a) done.bytes ∙ length-bytes_from 0 fields (take place rows);
        within = omega (arith, next, done.words);
        below = omega (arith, can.places);
      };
      follows = done.follows;
      fits = fits_place shape rows place row (can.fit place) there;
      numbers = λ index. can.numbers place index row there;
      ends = zip_all (λ field part. HasBytes field.kind → length part.area < 2 ^ (part.width - 1)) fields widths first (areas_with areas (values_of_place row)) (sum widths) place 0 wide filled
          (λ k field within at has.
          let all = can.ends k field (slice_get_read fields (length fields) k field refl within at) has in
          let some = column_le k (place + 1) rows in
          let here = ap (λ (a : List (List ℕ)). length (area_of a k)) grown ∙ ap (λ (bs : List ℕ). length bs) (bytes_at 0 fields (take (place + 1) rows) k within) in
          let same : 0 + k ≡ k = omega arith in
          let bytes = ap (λ (i : ℕ). length (values_bytes (column i (map values_of_place (take (place + 1) rows))))) same in
          omega arith);
    }

-- an earlier place packs what it packed
kept_place : (shape : Shape) (widths first first' : List ℕ) (areas areas' : List (List ℕ)) (place : ℕ) (row : Place) → IsRowPut shape widths first areas first' areas' place row
    → (before : ℕ) (old : Place) → before < place → PacksPlace shape widths first areas before old → PacksPlace shape widths first' areas' before old
kept_place shape widths first first' areas areas' place row put before None earlier packed = put.gaps before earlier packed
kept_place shape widths first first' areas areas' place row put before (Some old) earlier packed = put.earlier before (stored_row old) earlier packed

pub packed_more : (shape : Shape) (widths : List ℕ) (rows : List Place) (first first' : List ℕ) (areas areas' : List (List ℕ)) (place : ℕ) (row : Place) → PackedSoFar shape widths rows first areas place
    → place < length rows → row ≡ get_or rows place row → IsRowPut shape widths first areas first' areas' place row → length first' ≡ length first
    → PackedSoFar shape widths rows first' areas' (place + 1)
packed_more shape widths rows first first' areas areas' place row done inside is put long =
    record {
      spelled = λ before found earlier there.
          elim (cases_lt before place) [
            | inl less ↦ kept_place shape widths first first' areas areas' place row put before found less (done.spelled before found less there)
            | inr late ↦
                let at : place ≡ before = omega arith in
                let same : row ≡ found = is ∙ get_or_from_slice_get rows place found row (subst (λ (n : ℕ). slice_get rows n ≡ Some found) (sym at) there) in
                subst (λ (n : ℕ). PacksPlace shape widths first' areas' n found) at (subst (λ (r : Place). PacksPlace shape widths first' areas' place r) same put.packed)
          ];
      bytes = put.grown ∙ bytes_more (shape_fields shape) rows place row areas done.bytes inside is;
      words = long ∙ done.words;
      follows = put.follows;
      bits = put.bits done.bits;
    }

pub packed_all : (shape : Shape) (widths : List ℕ) (rows : List Place) (first : List ℕ) (areas : List (List ℕ)) (place : ℕ) → CanPack shape widths rows → PackedSoFar shape widths rows first areas place → place ≡ length rows
    → IsPacked shape widths rows first areas
packed_all shape widths rows first areas place can done all =
    let bytes = done.bytes ∙ ap (λ (rs : List Place). areas_for (shape_fields shape) rs) (take_all place rows (omega arith)) in
    record {
      spelled = λ at row there. done.spelled at row (let inside = slice_get_within rows at row there in omega arith) there;
      bytes = bytes;
      fixed = λ index field there none.
          let inside = slice_get_within (shape_fields shape) index field there in
          let is = sym (get_or_from_slice_get (shape_fields shape) index field field there) in
          ap (λ (a : List (List ℕ)). area_of a index) bytes
          ∙ bytes_at 0 (shape_fields shape) rows index inside
          ∙ no_column_bytes (0 + index) field.kind rows
          (let same : index ≡ 0 + index = omega arith in
          λ at row found. subst (λ (i : ℕ). IfSome (slice_get (values_of_place row) i) (FitsKind field.kind)) same
          (fits_at shape row index field (fits_place shape rows at row (can.fit at) found) inside is))
          none;
      words = done.words;
      bits = subst (λ (n : ℕ). number_of first < 2 ^ (n * sum widths)) all done.bits;
    }

-- all places have so many bits that each has a number
pub bits_small : (shape : Shape) (widths : List ℕ) (rows : List Place) → CanPack shape widths rows → (sum widths < 2 ^ 64) × (length rows * sum widths < 2 ^ 64)
bits_small shape widths rows can =
    let small = fields_small (IsWidthFor rows) (narrow_for rows) (shape_fields shape) widths can.few can.wide in
    let product : length rows * sum widths ≤ 2 ^ 32 * 65536 = mul-le-mul can.places small in
    (omega arith, omega arith)
