-- Reading a section as it is seen is reading the blob's section by the names of the fields.
use Rattle.std.proofs.Common.{◌≡◌, inl, inr, ℕ, suc, ◌+◌, ◌<◌, List, [], ◌∷◌, length, map, sum, Option, None, Some, refl, sym, ap, subst, ◌∙◌, arith}
use Rattle.std.specs.Prelude.{◌↔◌, unwrap_or}
use Rattle.std.proofs.lemmas.Slice.Zip.{AllZip-long}
use Rattle.schema_model.specs.declared.reason.Reason.{Reason}
use Rattle.schema_model.specs.declared.schema.Field.{Field}
use Rattle.schema_model.specs.declared.schema.FieldKind.{FieldKind}
use Rattle.schema_model.specs.declared.schema.Shape.{Shape}
use Rattle.schema_model.specs.Growth.{ShapesAgree}
use Rattle.schema_model.specs.Parts.{AreApart, shape_fields}
use Rattle.row_model.specs.declared.row.Row.{Row}
use Rattle.row_model.specs.declared.row.Value.{Value}
use Rattle.object_codec.specs.ObjectPlace.{FirstFails, SpellsFields, parts_from, parts_of}
use Rattle.object_codec.specs.Part.{FieldPart, FailsValue, SpellsValue}
use Rattle.type_rows.specs.declared.patch.PatchSection.{PatchSection}
use Rattle.type_rows.specs.Loads.{Spells}
use Rattle.type_rows.specs.Patches.{places_in}
use Rattle.type_rows.specs.WellFormed.{IsWidth}
use Rattle.type_rows.specs.Fails.{Fails}
use Rattle.seen_patches.specs.ByName.{item_named}
use Rattle.seen_patches.specs.Elements.{elements_of}
use Rattle.seen_patches.specs.Patch.{HasColumns}
use Rattle.seen_patches.specs.Seen.{IsColumned, IsSeen, seen_areas, seen_elements, seen_widths}
use Rattle.seen_patches.specs.Spelling.{FailsColumn, FailsSeen, FirstColumnFails, SpellsColumn, SpellsColumns, SpellsSeen}
use Rattle.seen_patches.proofs.Nulls.{null_alone, null_holds, null_part, null_spelled}
use Rattle.seen_patches.proofs.Parts.{seen_part, seen_parts}
use Rattle.seen_patches.proofs.Places.{named_self}

-- ---- one field

value_by : (kind : FieldKind) (place : ℕ) (o : Option FieldPart) (value : Value) → SpellsValue kind (unwrap_or o (null_part kind place)) value ↔ SpellsColumn kind o value
value_by kind place (Some part) value = (λ h. h, λ h. h)
value_by kind place None value = (null_alone kind place value, λ is. subst (λ (v : Value). SpellsValue kind (null_part kind place) v) (sym is) (null_spelled kind place))

reason_by : (kind : FieldKind) (place : ℕ) (o : Option FieldPart) (reason : Reason) → FailsValue kind (unwrap_or o (null_part kind place)) reason ↔ FailsColumn kind o reason
reason_by kind place (Some part) reason = (λ h. h, λ h. h)
reason_by kind place None reason = (null_holds kind place reason, λ none. absurd none)

-- ---- all fields

fields_by : (theirs : List Field) (parts : List FieldPart) (place : ℕ) (mine : List Field) (values : List Value)
    → SpellsFields mine (map (seen_part theirs parts place) mine) values ↔ SpellsColumns theirs parts mine values
fields_by theirs parts place [] [] = (λ h. tt, λ h. tt)
fields_by theirs parts place [] (value ∷ values) = (λ h. absurd h, λ h. absurd h)
fields_by theirs parts place (field ∷ mine) [] = (λ h. absurd h, λ h. absurd h)
fields_by theirs parts place (field ∷ mine) (value ∷ values) =
    let one = value_by field.kind place (item_named theirs parts field.name) value in
    let rest = fields_by theirs parts place mine values in
    (λ h. (one.0 h.0, rest.0 h.1), λ h. (one.1 h.0, rest.1 h.1))

fails_by : (theirs : List Field) (parts : List FieldPart) (place : ℕ) (mine : List Field) (reason : Reason)
    → FirstFails mine (map (seen_part theirs parts place) mine) reason ↔ FirstColumnFails theirs parts mine reason
fails_by theirs parts place [] reason = (λ h. absurd h, λ h. absurd h)
fails_by theirs parts place (field ∷ mine) reason =
    let o = item_named theirs parts field.name in
    let one = reason_by field.kind place o reason in
    let rest = fails_by theirs parts place mine reason in (
      λ h. elim h [ inl here ↦ inl (one.0 here) | inr later ↦ inr ((later.0.0, (value_by field.kind place o later.0.0).0 later.0.1), rest.0 later.1) ],
      λ h. elim h [ inl here ↦ inl (one.1 here) | inr later ↦ inr ((later.0.0, (value_by field.kind place o later.0.0).1 later.0.1), rest.1 later.1) ],
    )

-- ---- the parts of a section as it is seen

parts_long : (first : List ℕ) (size place start : ℕ) (widths : List ℕ) (areas : List (List ℕ)) → length areas ≡ length widths → length (parts_from first size place start widths areas) ≡ length widths
parts_long first size place start [] [] long = refl
parts_long first size place start [] (area ∷ areas) long = absurd (omega arith)
parts_long first size place start (width ∷ widths) [] long = absurd (omega arith)
parts_long first size place start (width ∷ widths) (area ∷ areas) long = ap suc (parts_long first size place (start + width) widths areas (omega arith))

-- of the same fields
same_parts : (theirs : List Field) (widths first : List ℕ) (areas : List (List ℕ)) (place : ℕ) → AreApart theirs → length widths ≡ length theirs → length areas ≡ length theirs
    → parts_of widths first areas place ≡ map (seen_part theirs (parts_of widths first areas place) place) theirs
same_parts theirs widths first areas place apart wide filled =
    sym (named_self theirs (parts_of widths first areas place) (λ field. null_part field.kind place) apart (parts_long first (sum widths) place 0 widths areas (filled ∙ sym wide) ∙ wide))

-- of other fields
other_parts : (mine theirs : List Field) (raw seen : PatchSection) (place : ℕ) → length raw.widths ≡ length theirs → length raw.areas ≡ length theirs → IsColumned mine theirs raw seen
    → place < length raw.added → parts_of seen.widths seen.first seen.areas place ≡ map (seen_part theirs (parts_of raw.widths raw.first raw.areas place) place) mine
other_parts mine theirs raw seen place wide filled is less =
    let widths' = seen_widths mine theirs raw.widths in
    let areas' = seen_areas mine theirs raw.areas in
    let elements = subst (λ (ws : List ℕ). (p : ℕ) → p < length raw.added → elements_of ws seen.first p ≡ seen_elements mine theirs (elements_of raw.widths raw.first p)) is.widths is.elements in
    ap (λ (ws : List ℕ). parts_of ws seen.first seen.areas place) is.widths
    ∙ ap (λ (bytes : List (List ℕ)). parts_of widths' seen.first bytes place) is.areas
    ∙ seen_parts theirs raw.widths raw.first raw.areas wide filled mine seen.first (sum widths') 0 place (λ p most. elements p (omega (arith, most, less)))

pub parts_seen : (key : Option (List (List ℕ))) (mine : List Field) (theirs : Shape) (raw seen : PatchSection) (place : ℕ) → AreApart (shape_fields theirs) → length raw.widths ≡ length (shape_fields theirs)
    → length raw.areas ≡ length (shape_fields theirs) → IsSeen (Shape.Object key mine) theirs raw seen → place < length raw.added
    → parts_of seen.widths seen.first seen.areas place ≡ map (seen_part (shape_fields theirs) (parts_of raw.widths raw.first raw.areas place) place) mine
parts_seen key mine theirs raw seen place apart wide filled (inl is) less =
    ap (λ (s : PatchSection). parts_of s.widths s.first s.areas place) is.1
    ∙ same_parts (shape_fields theirs) raw.widths raw.first raw.areas place apart wide filled
    ∙ ap (λ (fields : List Field). map (seen_part (shape_fields theirs) (parts_of raw.widths raw.first raw.areas place) place) fields) (sym is.0)
parts_seen key mine theirs raw seen place apart wide filled (inr is) less = other_parts mine (shape_fields theirs) raw seen place wide filled is.1 less

-- the blob's type of an OBJECT is one, and has a width for each field
widths_long : (key : Option (List (List ℕ))) (mine : List Field) (theirs : Shape) (raw : PatchSection) → ShapesAgree (Shape.Object key mine) theirs → HasColumns theirs raw
    → length raw.widths ≡ length (shape_fields theirs)
widths_long key mine (Shape.Object other fields) raw agree well = AllZip-long (λ field width. IsWidth raw.max field.kind width) fields raw.widths well.0
widths_long key mine (Shape.List element) raw agree well = absurd (let same : Shape.Object key mine ≡ Shape.List element = agree in cc)
widths_long key mine (Shape.Set element) raw agree well = absurd (let same : Shape.Object key mine ≡ Shape.Set element = agree in cc)
widths_long key mine (Shape.Map of to) raw agree well = absurd (let same : Shape.Object key mine ≡ Shape.Map of to = agree in cc)

areas_long : (key : Option (List (List ℕ))) (mine : List Field) (theirs : Shape) (raw : PatchSection) → ShapesAgree (Shape.Object key mine) theirs → HasColumns theirs raw
    → length raw.areas ≡ length (shape_fields theirs)
areas_long key mine (Shape.Object other fields) raw agree well = well.1
areas_long key mine (Shape.List element) raw agree well = absurd (let same : Shape.Object key mine ≡ Shape.List element = agree in cc)
areas_long key mine (Shape.Set element) raw agree well = absurd (let same : Shape.Object key mine ≡ Shape.Set element = agree in cc)
areas_long key mine (Shape.Map of to) raw agree well = absurd (let same : Shape.Object key mine ≡ Shape.Map of to = agree in cc)

-- ---- rows of any kind

object_spells : (key : Option (List (List ℕ))) (mine : List Field) (theirs : Shape) (raw seen : PatchSection) (place : ℕ) (row : Row) → AreApart (shape_fields theirs)
    → length raw.widths ≡ length (shape_fields theirs) → length raw.areas ≡ length (shape_fields theirs) → IsSeen (Shape.Object key mine) theirs raw seen → place < length raw.added
    → Spells (Shape.Object key mine) (places_in seen) place row ↔ SpellsSeen (Shape.Object key mine) theirs (places_in raw) place row
object_spells key mine theirs raw seen place (Row.Object values) apart wide filled is less =
    let parts = parts_seen key mine theirs raw seen place apart wide filled is less in
    let both = fields_by (shape_fields theirs) (parts_of raw.widths raw.first raw.areas place) place mine values in
    (λ h. both.0 (subst (λ (ps : List FieldPart). SpellsFields mine ps values) parts h), λ h. subst (λ (ps : List FieldPart). SpellsFields mine ps values) (sym parts) (both.1 h))
object_spells key mine theirs raw seen place _ apart wide filled is less = (λ h. absurd h, λ h. absurd h)

object_fails : (key : Option (List (List ℕ))) (mine : List Field) (theirs : Shape) (raw seen : PatchSection) (place : ℕ) (reason : Reason) → AreApart (shape_fields theirs)
    → length raw.widths ≡ length (shape_fields theirs) → length raw.areas ≡ length (shape_fields theirs) → IsSeen (Shape.Object key mine) theirs raw seen → place < length raw.added
    → Fails (Shape.Object key mine) (places_in seen) place reason ↔ FailsSeen (Shape.Object key mine) theirs (places_in raw) place reason
object_fails key mine theirs raw seen place reason apart wide filled is less =
    let parts = parts_seen key mine theirs raw seen place apart wide filled is less in
    let both = fails_by (shape_fields theirs) (parts_of raw.widths raw.first raw.areas place) place mine reason in
    (λ h. both.0 (subst (λ (ps : List FieldPart). FirstFails mine ps reason) parts h), λ h. subst (λ (ps : List FieldPart). FirstFails mine ps reason) (sym parts) (both.1 h))

-- a section of another kind stays as it is
pub stays : (mine theirs : Shape) (raw seen : PatchSection) → shape_fields mine ≡ [] → mine ≡ theirs → IsSeen mine theirs raw seen → seen ≡ raw
stays mine theirs raw seen none same (inl is) = is.1
stays mine theirs raw seen none same (inr is) = absurd (is.0 (ap shape_fields same))

pub seen_spells : (mine theirs : Shape) (raw seen : PatchSection) (place : ℕ) (row : Row) → ShapesAgree mine theirs → AreApart (shape_fields theirs) → HasColumns theirs raw
    → IsSeen mine theirs raw seen → place < length raw.added → Spells mine (places_in seen) place row ↔ SpellsSeen mine theirs (places_in raw) place row
seen_spells (Shape.Object key mine) theirs raw seen place row agree apart well is less =
    object_spells key mine theirs raw seen place row apart (widths_long key mine theirs raw agree well) (areas_long key mine theirs raw agree well) is less
seen_spells (Shape.List element) theirs raw seen place row agree apart well is less =
    let same = stays (Shape.List element) theirs raw seen refl agree is in
    (λ h. subst (λ (s : PatchSection). Spells (Shape.List element) (places_in s) place row) same h, λ h. subst (λ (s : PatchSection). Spells (Shape.List element) (places_in s) place row) (sym same) h)
seen_spells (Shape.Set element) theirs raw seen place row agree apart well is less =
    let same = stays (Shape.Set element) theirs raw seen refl agree is in
    (λ h. subst (λ (s : PatchSection). Spells (Shape.Set element) (places_in s) place row) same h, λ h. subst (λ (s : PatchSection). Spells (Shape.Set element) (places_in s) place row) (sym same) h)
seen_spells (Shape.Map of to) theirs raw seen place row agree apart well is less =
    let same = stays (Shape.Map of to) theirs raw seen refl agree is in
    (λ h. subst (λ (s : PatchSection). Spells (Shape.Map of to) (places_in s) place row) same h, λ h. subst (λ (s : PatchSection). Spells (Shape.Map of to) (places_in s) place row) (sym same) h)

pub seen_fails : (mine theirs : Shape) (raw seen : PatchSection) (place : ℕ) (reason : Reason) → ShapesAgree mine theirs → AreApart (shape_fields theirs) → HasColumns theirs raw
    → IsSeen mine theirs raw seen → place < length raw.added → Fails mine (places_in seen) place reason ↔ FailsSeen mine theirs (places_in raw) place reason
seen_fails (Shape.Object key mine) theirs raw seen place reason agree apart well is less =
    object_fails key mine theirs raw seen place reason apart (widths_long key mine theirs raw agree well) (areas_long key mine theirs raw agree well) is less
seen_fails (Shape.List element) theirs raw seen place reason agree apart well is less =
    let same = stays (Shape.List element) theirs raw seen refl agree is in
    (λ h. subst (λ (s : PatchSection). Fails (Shape.List element) (places_in s) place reason) same h, λ h. subst (λ (s : PatchSection). Fails (Shape.List element) (places_in s) place reason) (sym same) h)
seen_fails (Shape.Set element) theirs raw seen place reason agree apart well is less =
    let same = stays (Shape.Set element) theirs raw seen refl agree is in
    (λ h. subst (λ (s : PatchSection). Fails (Shape.Set element) (places_in s) place reason) same h, λ h. subst (λ (s : PatchSection). Fails (Shape.Set element) (places_in s) place reason) (sym same) h)
seen_fails (Shape.Map of to) theirs raw seen place reason agree apart well is less =
    let same = stays (Shape.Map of to) theirs raw seen refl agree is in
    (λ h. subst (λ (s : PatchSection). Fails (Shape.Map of to) (places_in s) place reason) same h, λ h. subst (λ (s : PatchSection). Fails (Shape.Map of to) (places_in s) place reason) (sym same) h)
