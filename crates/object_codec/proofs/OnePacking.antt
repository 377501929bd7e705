-- Lemmas on two lists of words that are packed of the same records: they have the same elements, and so are the same.
use Rattle.std.proofs.Common.{◌≡◌, ℕ, zero, suc, ◌+◌, ◌*◌, ◌<◌, List, [], ◌∷◌, length, map, sum, get_or, Option, Some, None, arith, refl, sym, ap, subst, ◌∙◌}
use Rattle.std.specs.List.{AllZip, enumerate_from}
use Rattle.std.proofs.lemmas.List.{length-map}
use Rattle.std.proofs.lemmas.List.FromFn.{length-enumerate_from}
use Rattle.std.proofs.lemmas.List.Sums.{sum_by-cons}
use Rattle.std.proofs.lemmas.Option.{slice_get-get_or}
use Rattle.std.proofs.lemmas.Slice.Zip.{AllZip-long}
use Rattle.bit_array.specs.Element.{number_of, element_of, AreWords}
use Rattle.bit_array.proofs.Elements.{element_of-lt, element_of_no_width}
use Rattle.schema_model.specs.Parts.{shape_fields}
use Rattle.row_model.specs.Row.{stored_value}
use Rattle.schema_model.specs.declared.schema.Field.{Field}
use Rattle.schema_model.specs.declared.schema.Shape.{Shape}
use Rattle.row_model.specs.declared.row.Row.{Row}
use Rattle.row_model.specs.declared.row.Value.{Value}
use Rattle.object_codec.specs.Part.{offset_in, SpellsValue}
use Rattle.object_codec.specs.ObjectPlace.{element_at, start_at, parts_from, SpellsFields}
use Rattle.object_codec.specs.Stored.{values_bytes, column}
use Rattle.object_codec.specs.Packing.{IsGap, PacksPlace, IsWidthFor, CanPack, IsPacked, areas_for, values_of_place}
use Rattle.bit_array.proofs.SameWords.{same_both, same_number, same_words}
use Rattle.object_codec.proofs.SameParts.{part_of, ZigzagsBack, same_element, same_gap}

-- the elements of some fields at a place are the same, and so are the places where their bytes start
abbrev HasSameElements : List ℕ → List ℕ → ℕ → ℕ → ℕ → List ℕ → Type 0
HasSameElements first first' size place before [] = Unit {0}
HasSameElements first first' size place before (width ∷ widths) =
    (element_at first size before width place ≡ element_at first' size before width place) × HasSameElements first first' size place (before + width) widths

abbrev HasSameStarts : List ℕ → List ℕ → ℕ → ℕ → ℕ → List ℕ → Type 0
HasSameStarts first first' size place before [] = Unit {0}
HasSameStarts first first' size place before (width ∷ widths) =
    (start_at first size before width place ≡ start_at first' size before width place) × HasSameStarts first first' size place (before + width) widths

first_starts : (first first' : List ℕ) (size before : ℕ) (widths : List ℕ) → HasSameStarts first first' size zero before widths
first_starts first first' size before [] = tt
first_starts first first' size before (width ∷ widths) = (refl, first_starts first first' size (before + width) widths)

next_starts : (first first' : List ℕ) (size place before : ℕ) (widths : List ℕ) → HasSameElements first first' size place before widths → HasSameStarts first first' size (suc place) before widths
next_starts first first' size place before [] same = tt
next_starts first first' size place before (width ∷ widths) same = (ap (offset_in width) same.0, next_starts first first' size place (before + width) widths same.1)

-- fields that give the same values
same_fields : (first first' : List ℕ) (size place before : ℕ) (fields : List Field) (widths : List ℕ) (areas : List (List ℕ)) (values : List Value) → ZigzagsBack → length areas ≡ length widths
    → HasSameStarts first first' size place before widths → SpellsFields fields (parts_from first size place before widths areas) values
    → SpellsFields fields (parts_from first' size place before widths areas) values → HasSameElements first first' size place before widths
same_fields first first' size place before fields [] areas values back long starts one two = tt
same_fields first first' size place before fields (width ∷ widths) [] values back long starts one two = absurd (omega (arith, long))
same_fields first first' size place before [] (width ∷ widths) (area ∷ areas) values back long starts one two = absurd one
same_fields first first' size place before (field ∷ fields) (width ∷ widths) (area ∷ areas) [] back long starts one two = absurd one
same_fields first first' size place before (field ∷ fields) (width ∷ widths) (area ∷ areas) (value ∷ values) back long starts one two =
    let start = start_at first size before width place in
    let other : SpellsValue field.kind (part_of width (element_at first' size before width place) start area) value =
    subst (λ s. SpellsValue field.kind (part_of width (element_at first' size before width place) s area) value) (sym starts.0) two.0 in (
      same_element field.kind width (element_at first size before width place) (element_at first' size before width place) start area value back
          (element_of-lt first (place * size + before) width) (element_of-lt first' (place * size + before) width) one.0 other,
      same_fields first first' size place (before + width) fields widths areas values back (omega (arith, long)) starts.1 one.1 two.1,
    )

-- and where there is no row
same_gaps : (first first' : List ℕ) (size place before : ℕ) (fields : List Field) (widths : List ℕ) (areas : List (List ℕ)) → length areas ≡ length widths
    → HasSameStarts first first' size place before widths → AllZip (λ field part. IsGap field.kind part) fields (parts_from first size place before widths areas)
    → AllZip (λ field part. IsGap field.kind part) fields (parts_from first' size place before widths areas) → HasSameElements first first' size place before widths
same_gaps first first' size place before fields [] areas long starts one two = tt
same_gaps first first' size place before fields (width ∷ widths) [] long starts one two = absurd (omega (arith, long))
same_gaps first first' size place before [] (width ∷ widths) (area ∷ areas) long starts one two = absurd one
same_gaps first first' size place before (field ∷ fields) (width ∷ widths) (area ∷ areas) long starts one two =
    let start = start_at first size before width place in
    let other : IsGap field.kind (part_of width (element_at first' size before width place) start area) =
    subst (λ s. IsGap field.kind (part_of width (element_at first' size before width place) s area)) (sym starts.0) two.0 in (
      same_gap field.kind width (element_at first size before width place) (element_at first' size before width place) start area one.0 other,
      same_gaps first first' size place (before + width) fields widths areas (omega (arith, long)) starts.1 one.1 two.1,
    )

same_row : (shape : Shape) (widths first first' : List ℕ) (areas : List (List ℕ)) (place : ℕ) (row : Option Row) → ZigzagsBack → length areas ≡ length widths
    → HasSameStarts first first' (sum widths) place 0 widths → PacksPlace shape widths first areas place row → PacksPlace shape widths first' areas place row
    → HasSameElements first first' (sum widths) place 0 widths
same_row shape widths first first' areas place None back long starts one two = same_gaps first first' (sum widths) place 0 (shape_fields shape) widths areas long starts one two
same_row shape widths first first' areas place (Some (Row.Object values)) back long starts one two =
    same_fields first first' (sum widths) place 0 (shape_fields shape) widths areas (map stored_value values) back long starts one two
same_row shape widths first first' areas place (Some _) back long starts one two = absurd one

-- place by place
abbrev Packs : Shape → List ℕ → List (Option Row) → List ℕ → List (List ℕ) → Type 0
Packs shape widths rows first areas = (place : ℕ) → place < length rows → PacksPlace shape widths first areas place (get_or rows place None)

same_at : (shape : Shape) (widths : List ℕ) (rows : List (Option Row)) (first first' : List ℕ) (areas : List (List ℕ)) (place : ℕ) → ZigzagsBack → length areas ≡ length widths
    → Packs shape widths rows first areas → Packs shape widths rows first' areas → place < length rows → HasSameElements first first' (sum widths) place 0 widths
same_at shape widths rows first first' areas zero back long packs packs' below =
    same_row shape widths first first' areas zero (get_or rows zero None) back long (first_starts first first' (sum widths) 0 widths) (packs zero below) (packs' zero below)
same_at shape widths rows first first' areas (suc place) back long packs packs' below =
    let before = same_at shape widths rows first first' areas place back long packs packs' (omega arith) in
    same_row shape widths first first' areas (suc place) (get_or rows (suc place) None) back long (next_starts first first' (sum widths) place 0 widths before) (packs (suc place) below) (packs' (suc place) below)

-- the elements side by side
same_record : (first first' : List ℕ) (size place before : ℕ) (widths : List ℕ) → HasSameElements first first' size place before widths
    → element_of first (place * size + before) (sum widths) ≡ element_of first' (place * size + before) (sum widths)
same_record first first' size place before [] same = element_of_no_width first (place * size + before) ∙ sym (element_of_no_width first' (place * size + before))
same_record first first' size place before (width ∷ widths) same =
    let at : place * size + (before + width) ≡ place * size + before + width = omega arith in
    let rest : element_of first (place * size + before + width) (sum widths) ≡ element_of first' (place * size + before + width) (sum widths) =
    subst (λ n. element_of first n (sum widths) ≡ element_of first' n (sum widths)) at (same_record first first' size place (before + width) widths same.1) in
    let whole : sum (width ∷ widths) ≡ width + sum widths = sum_by-cons (λ n. n) width widths in
    subst (λ n. element_of first (place * size + before) n ≡ element_of first' (place * size + before) n) (sym whole)
    (same_both first first' (place * size + before) width (sum widths) same.0 rest)

packs_rows : (shape : Shape) (widths : List ℕ) (rows : List (Option Row)) (first : List ℕ) (areas : List (List ℕ)) → IsPacked shape widths rows first areas
    → Packs shape widths rows first (areas_for (shape_fields shape) rows)
packs_rows shape widths rows first areas packed place below =
    subst (λ a. PacksPlace shape widths first a place (get_or rows place None)) packed.bytes (packed.spelled place (get_or rows place None) (slice_get-get_or rows place None below))

-- there are as many areas as widths
areas_long : (shape : Shape) (widths : List ℕ) (rows : List (Option Row)) → CanPack shape widths rows → length (areas_for (shape_fields shape) rows) ≡ length widths
areas_long shape widths rows can =
    length-map (enumerate_from 0 (shape_fields shape)) (λ (part : ℕ × Field). values_bytes (column part.0 (map values_of_place rows)))
    ∙ length-enumerate_from 0 (shape_fields shape)
    ∙ sym (AllZip-long (IsWidthFor rows) (shape_fields shape) widths can.wide)

-- the words and bytes of records are determined
pub records_packed_once : (shape : Shape) (widths : List ℕ) (rows : List (Option Row)) (first first' : List ℕ) (areas areas' : List (List ℕ)) → ZigzagsBack → CanPack shape widths rows → AreWords first
    → AreWords first' → IsPacked shape widths rows first areas → IsPacked shape widths rows first' areas' → (first ≡ first') × (areas ≡ areas')
records_packed_once shape widths rows first first' areas areas' back can words words' packed packed' =
    let number : number_of first ≡ number_of first' =
    same_number first first' (sum widths) (length rows) packed.bits packed'.bits
    (λ place below.
    let same = same_at shape widths rows first first' (areas_for (shape_fields shape) rows) place back (areas_long shape widths rows can) (packs_rows shape widths rows first areas packed)
    (packs_rows shape widths rows first' areas' packed') below in
    let start : place * sum widths + 0 ≡ place * sum widths = omega arith in
    subst (λ n. element_of first n (sum widths) ≡ element_of first' n (sum widths)) start (same_record first first' (sum widths) place 0 widths same)) in
    (same_words first first' (packed.words ∙ sym packed'.words) words words' number, packed.bytes ∙ sym packed'.bytes)
