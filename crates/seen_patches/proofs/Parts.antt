-- The parts of records as they are seen.
use Rattle.std.proofs.Common.{◌≡◌, ℕ, zero, suc, ◌+◌, ◌<◌, ◌≤◌, List, [], ◌∷◌, length, map, sum, get_or, drop, Option, None, Some, refl, sym, ap, ◌∙◌, arith}
use Rattle.std.specs.Prelude.{option_and_then, option_map, slice_get, unwrap_or}
use Rattle.std.proofs.lemmas.Option.{slice_get-map}
use Rattle.schema_model.specs.declared.schema.Field.{Field}
use Rattle.schema_model.specs.declared.schema.FieldKind.{FieldKind}
use Rattle.object_codec.specs.ObjectPlace.{element_at, part_at, parts_from, parts_of, start_at}
use Rattle.object_codec.specs.Part.{FieldPart, offset_in}
use Rattle.seen_patches.specs.ByName.{field_in, item_named}
use Rattle.seen_patches.specs.Elements.{column_element, columns_from, elements_in, elements_of}
use Rattle.seen_patches.specs.Nulls.{null_element, null_width}
use Rattle.seen_patches.specs.Seen.{seen_area, seen_element, seen_width}
use Rattle.seen_patches.proofs.Naming.{found_inside}
use Rattle.seen_patches.proofs.Nulls.{null_part}

-- the part of a field of the consumer at a place
abbrev pub seen_part : List Field → List FieldPart → ℕ → Field → FieldPart
seen_part theirs parts place field = unwrap_or (item_named theirs parts field.name) (null_part field.kind place)

-- ---- a field of the blob

-- a field has a width, an area and a column
pub record IsThere (first : List ℕ) (size start : ℕ) (widths : List ℕ) (areas : List (List ℕ)) (index : ℕ) : Type 0 where
  pub before : ℕ
  pub width : ℕ
  pub area : List ℕ
  pub wide : slice_get widths index ≡ Some width
  pub filled : slice_get areas index ≡ Some area
  pub column : slice_get (columns_from size start widths) index ≡ Some (record { size = size; before = before; width = width })
  pub part : (place : ℕ) → slice_get (parts_from first size place start widths areas) index ≡ Some (part_at first size place before width area)

pub there : (first : List ℕ) (size start : ℕ) (widths : List ℕ) (areas : List (List ℕ)) (index : ℕ) → length areas ≡ length widths → index < length widths → IsThere first size start widths areas index
there first size start [] areas index long inside = absurd (omega arith)
there first size start (width ∷ widths) [] index long inside = absurd (omega arith)
there first size start (width ∷ widths) (area ∷ areas) zero long inside =
    record { before = start; width = width; area = area; wide = refl; filled = refl; column = refl; part = λ place. refl }
there first size start (width ∷ widths) (area ∷ areas) (suc index) long inside =
    let rest = there first size (start + width) widths areas index (omega arith) (omega arith) in
    record { before = rest.before; width = rest.width; area = rest.area; wide = rest.wide; filled = rest.filled; column = rest.column; part = rest.part }

-- ---- one part

-- two parts are the same that have the same width, bytes and elements at each place up to theirs
same_start : (first first' : List ℕ) (size size' before before' width width' place : ℕ) → width' ≡ width
    → ((p : ℕ) → p ≤ place → element_at first' size' before' width' p ≡ element_at first size before width p) → start_at first' size' before' width' place ≡ start_at first size before width place
same_start first first' size size' before before' width width' zero wide same = refl
same_start first first' size size' before before' width width' (suc earlier) wide same = λ i. offset_in (wide i) (same earlier (omega arith) i)

pub same_part : (first first' : List ℕ) (size size' before before' width width' place : ℕ) (area area' : List ℕ) → width' ≡ width → area' ≡ area
    → ((p : ℕ) → p ≤ place → element_at first' size' before' width' p ≡ element_at first size before width p) → part_at first' size' place before' width' area' ≡ part_at first size place before width area
same_part first first' size size' before before' width width' place area area' wide bytes same =
    let element = same place (omega arith) in
    let start = same_start first first' size size' before before' width width' place wide same in
    λ i. record { width = wide i; element = element i; start = start i; area = bytes i }

null_starts : (kind : FieldKind) (first' : List ℕ) (size' before' width' place : ℕ) → width' ≡ null_width kind
    → ((p : ℕ) → p ≤ place → element_at first' size' before' width' p ≡ null_element kind) → start_at first' size' before' width' place ≡ (null_part kind place).start
null_starts kind first' size' before' width' zero wide same = refl
null_starts kind first' size' before' width' (suc earlier) wide same = λ i. offset_in (wide i) (same earlier (omega arith) i)

null_same : (kind : FieldKind) (first' : List ℕ) (size' before' width' place : ℕ) (area' : List ℕ) → width' ≡ null_width kind → area' ≡ []
    → ((p : ℕ) → p ≤ place → element_at first' size' before' width' p ≡ null_element kind) → part_at first' size' place before' width' area' ≡ null_part kind place
null_same kind first' size' before' width' place area' wide bytes same =
    let element = same place (omega arith) in
    let start = null_starts kind first' size' before' width' place wide same in
    λ i. record { width = wide i; element = element i; start = start i; area = bytes i }

module _ (theirs : List Field) (widths first : List ℕ) (areas : List (List ℕ)) (wide : length widths ≡ length theirs) (filled : length areas ≡ length theirs) where
  -- the part of one field, by where the field of its name stands
  one_by : (field : Field) (o : Option ℕ) (first' : List ℕ) (size' before' place : ℕ) → field_in theirs field.name ≡ o
      → ((p : ℕ) → p ≤ place → element_at first' size' before' (seen_width theirs widths field) p ≡ seen_element theirs (elements_of widths first p) field)
      → part_at first' size' place before' (seen_width theirs widths field) (seen_area theirs areas field) ≡ seen_part theirs (parts_of widths first areas place) place field
  one_by field None first' size' before' place found same =
      let wide' : seen_width theirs widths field ≡ null_width field.kind = ap (λ (o : Option ℕ). unwrap_or (option_and_then (slice_get widths) o) (null_width field.kind)) found in
      let area' : seen_area theirs areas field ≡ [] = ap (λ (o : Option ℕ). unwrap_or (option_and_then (slice_get areas) o) []) found in
      let part' : seen_part theirs (parts_of widths first areas place) place field ≡ null_part field.kind place =
      ap (λ (o : Option ℕ). unwrap_or (option_and_then (slice_get (parts_of widths first areas place)) o) (null_part field.kind place)) found in
      null_same field.kind first' size' before' (seen_width theirs widths field) place (seen_area theirs areas field) wide' area'
      (λ p most. same p most ∙ ap (λ (o : Option ℕ). unwrap_or (option_and_then (slice_get (elements_of widths first p)) o) (null_element field.kind)) found)
      ∙ sym part'
  one_by field (Some index) first' size' before' place found same =
      let inside : index < length theirs = found_inside theirs field.name (Some index) (sym found) in
      let at = there first (sum widths) 0 widths areas index (omega (arith, wide, filled)) (omega (arith, wide, inside)) in
      let wide' : seen_width theirs widths field ≡ at.width =
      ap (λ (o : Option ℕ). unwrap_or (option_and_then (slice_get widths) o) (null_width field.kind)) found ∙ ap (λ (o : Option ℕ). unwrap_or o (null_width field.kind)) at.wide in
      let area' : seen_area theirs areas field ≡ at.area =
      ap (λ (o : Option ℕ). unwrap_or (option_and_then (slice_get areas) o) []) found ∙ ap (λ (o : Option (List ℕ)). unwrap_or o []) at.filled in
      let part' : seen_part theirs (parts_of widths first areas place) place field ≡ part_at first (sum widths) place at.before at.width at.area =
      ap (λ (o : Option ℕ). unwrap_or (option_and_then (slice_get (parts_of widths first areas place)) o) (null_part field.kind place)) found
      ∙ ap (λ (o : Option FieldPart). unwrap_or o (null_part field.kind place)) (at.part place) in
      same_part first first' (sum widths) size' at.before before' at.width (seen_width theirs widths field) place at.area (seen_area theirs areas field) wide' area'
      (λ p most.
      same p most
      ∙ ap (λ (o : Option ℕ). unwrap_or (option_and_then (slice_get (elements_of widths first p)) o) (null_element field.kind)) found
      ∙ ap (λ (o : Option ℕ). unwrap_or o (null_element field.kind)) (slice_get-map (column_element first p) (columns_from (sum widths) 0 widths) index ∙ ap (option_map (column_element first p)) at.column))
      ∙ sym part'

  -- the parts of all fields
  pub seen_parts : (mine : List Field) (first' : List ℕ) (size' before' place : ℕ)
      → ((p : ℕ) → p ≤ place → elements_in first' p (columns_from size' before' (map (seen_width theirs widths) mine)) ≡ map (seen_element theirs (elements_of widths first p)) mine)
      → parts_from first' size' place before' (map (seen_width theirs widths) mine) (map (seen_area theirs areas) mine) ≡ map (seen_part theirs (parts_of widths first areas place) place) mine
  seen_parts [] first' size' before' place same = refl
  seen_parts (field ∷ mine) first' size' before' place same =
      let width = seen_width theirs widths field in
      let head = one_by field (field_in theirs field.name) first' size' before' place refl (λ p most. ap (λ (es : List ℕ). get_or es 0 0) (same p most)) in
      let rest = seen_parts mine first' size' (before' + width) place (λ p most. ap (λ (es : List ℕ). drop 1 es) (same p most)) in
      λ i. head i ∷ rest i
