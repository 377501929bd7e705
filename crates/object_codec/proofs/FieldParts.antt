-- Lemmas on the parts of a record: what holds of each by its index holds of all, and what keeps them.
use Rattle.std.proofs.Common.{◌≡◌, ℕ, zero, suc, ◌+◌, ◌-◌, ◌*◌, ◌<◌, ◌≤◌, List, [], ◌∷◌, ◌++◌, length, get_or, take, drop, refl, sym, ap, ◌∙◌, subst, arith}
use Rattle.std.specs.Prelude.{sum, map, slice_get}
use Rattle.std.specs.List.{AllZip, enumerate_from}
use Rattle.std.proofs.lemmas.List.{length-append, take-append-le, drop-append-le, length-drop}
use Rattle.std.proofs.lemmas.List.Sums.{sum_by-cons}
use Rattle.bit_array.specs.Element.{element_of}
use Rattle.row_model.specs.Areas.{area_of}
use Rattle.row_model.specs.Row.{stored_value}
use Rattle.schema_model.specs.declared.schema.FieldKind.{FieldKind}
use Rattle.schema_model.specs.declared.schema.Field.{Field}
use Rattle.row_model.specs.declared.row.Value.{Value}
use Rattle.object_codec.specs.ObjectPlace.{element_at, start_at, part_at, parts_from, SpellsFields}
use Rattle.object_codec.specs.Part.{FieldPart, IsSpan, span_of, offset_in, SpellsValue, SpellsText, SpellsBytes}
use Rattle.object_codec.specs.Packing.{IsGap, PacksPart}
use Rattle.object_codec.specs.Stored.{value_at, values_bytes}

sum-cons : (width : ℕ) (widths : List ℕ) → sum (width ∷ widths) ≡ width + sum widths
sum-cons width widths = sum_by-cons (λ (w : ℕ). w) width widths

-- ---- by index

-- what holds of each part holds of all
pub zip_all : (R : Field → FieldPart → Type 0) (fields : List Field) (widths first : List ℕ) (areas : List (List ℕ)) (size place before : ℕ) → length widths ≡ length fields → length areas ≡ length fields
    → ((k : ℕ) (field : Field) → k < length fields → field ≡ get_or fields k field → R field (part_at first size place (before + sum (take k widths)) (get_or widths k 0) (area_of areas k)))
    → AllZip R fields (parts_from first size place before widths areas)
zip_all R [] [] first [] size place before wide filled each = tt
zip_all R [] [] first (area ∷ areas) size place before wide filled each = absurd (omega arith)
zip_all R [] (width ∷ widths) first areas size place before wide filled each = absurd (omega arith)
zip_all R (field ∷ fields) [] first areas size place before wide filled each = absurd (omega arith)
zip_all R (field ∷ fields) (width ∷ widths) first [] size place before wide filled each = absurd (omega arith)
zip_all R (field ∷ fields) (width ∷ widths) first (area ∷ areas) size place before wide filled each =
    let none : before + 0 ≡ before = omega arith in (
      subst (λ (b : ℕ). R field (part_at first size place b width area)) none (each 0 field (omega arith) refl),
      zip_all R fields widths first areas size place (before + width) (omega arith) (omega arith)
          (λ k next inside is.
          let e : before + sum (width ∷ take k widths) ≡ before + width + sum (take k widths) = omega (arith, sum-cons width (take k widths)) in
          subst (λ (b : ℕ). R next (part_at first size place b (get_or widths k 0) (area_of areas k))) e (each (suc k) next (omega arith) is)),
    )

-- what holds of all parts holds of each
pub zip_part : (R : Field → FieldPart → Type 0) (fields : List Field) (widths first : List ℕ) (areas : List (List ℕ)) (size place before k : ℕ) (field : Field) → length widths ≡ length fields
    → length areas ≡ length fields → AllZip R fields (parts_from first size place before widths areas) → k < length fields → field ≡ get_or fields k field
    → R field (part_at first size place (before + sum (take k widths)) (get_or widths k 0) (area_of areas k))
zip_part R [] widths first areas size place before k field wide filled all inside is = absurd (omega arith)
zip_part R (f ∷ fields) [] first areas size place before k field wide filled all inside is = absurd (omega arith)
zip_part R (f ∷ fields) (width ∷ widths) first [] size place before k field wide filled all inside is = absurd (omega arith)
zip_part R (f ∷ fields) (width ∷ widths) first (area ∷ areas) size place before zero field wide filled all inside is =
    let none : before ≡ before + 0 = omega arith in
    subst (λ (b : ℕ). R field (part_at first size place b width area)) none (subst (λ (g : Field). R g (part_at first size place before width area)) (sym is) all.0)
zip_part R (f ∷ fields) (width ∷ widths) first (area ∷ areas) size place before (suc k) field wide filled all inside is =
    let e : before + width + sum (take k widths) ≡ before + sum (width ∷ take k widths) = omega (arith, sum-cons width (take k widths)) in
    subst (λ (b : ℕ). R field (part_at first size place b (get_or widths k 0) (area_of areas k))) e
    (zip_part R fields widths first areas size place (before + width) k field (omega arith) (omega arith) all.1 (omega arith) is)

-- where each part packs its value, they spell the record
pub spells_all : (fields : List Field) (widths first : List ℕ) (areas : List (List ℕ)) (size place before : ℕ) (values : List Value) → length widths ≡ length fields → length areas ≡ length fields
    → length values ≡ length fields
    → ((k : ℕ) (field : Field) → k < length fields → field ≡ get_or fields k field
    → PacksPart field.kind (part_at first size place (before + sum (take k widths)) (get_or widths k 0) (area_of areas k)) (slice_get values k))
    → SpellsFields fields (parts_from first size place before widths areas) (map stored_value values)
spells_all [] [] first [] size place before [] wide filled whole each = tt
spells_all [] [] first [] size place before (value ∷ values) wide filled whole each = absurd (omega arith)
spells_all [] [] first (area ∷ areas) size place before values wide filled whole each = absurd (omega arith)
spells_all [] (width ∷ widths) first areas size place before values wide filled whole each = absurd (omega arith)
spells_all (field ∷ fields) [] first areas size place before values wide filled whole each = absurd (omega arith)
spells_all (field ∷ fields) (width ∷ widths) first [] size place before values wide filled whole each = absurd (omega arith)
spells_all (field ∷ fields) (width ∷ widths) first (area ∷ areas) size place before [] wide filled whole each = absurd (omega arith)
spells_all (field ∷ fields) (width ∷ widths) first (area ∷ areas) size place before (value ∷ values) wide filled whole each =
    let none : before + 0 ≡ before = omega arith in (
      subst (λ (b : ℕ). SpellsValue field.kind (part_at first size place b width area) (stored_value value)) none (each 0 field (omega arith) refl),
      spells_all fields widths first areas size place (before + width) values (omega arith) (omega arith) (omega arith)
          (λ k next inside is.
          let e : before + sum (width ∷ take k widths) ≡ before + width + sum (take k widths) = omega (arith, sum-cons width (take k widths)) in
          subst (λ (b : ℕ). PacksPart next.kind (part_at first size place b (get_or widths k 0) (area_of areas k)) (slice_get values k)) e (each (suc k) next (omega arith) is)),
    )

-- ---- bits before a limit are as they were

abbrev pub SameBefore : List ℕ → List ℕ → ℕ → Type 0
SameBefore old new limit = (at v : ℕ) → at + v ≤ limit → element_of new at v ≡ element_of old at v

pub same_start : (old new : List ℕ) (size before width place limit : ℕ) → SameBefore old new limit → place * size ≤ limit → before + width ≤ size
    → start_at new size before width place ≡ start_at old size before width place
same_start old new size before width zero limit same within held = refl
same_start old new size before width (suc earlier) limit same within held = ap (offset_in width) (same (earlier * size + before) width (omega arith))

same_part : (old new : List ℕ) (size place before width limit : ℕ) (area : List ℕ) → SameBefore old new limit → (place + 1) * size ≤ limit → before + width ≤ size
    → part_at new size place before width area ≡ part_at old size place before width area
same_part old new size place before width limit area same within held =
    let element = same (place * size + before) width (omega arith) in
    let start = same_start old new size before width place limit same (omega arith) held in
    ap (λ (e : ℕ). record { width = width; element = e; start = start_at new size before width place; area = area }) element
    ∙ ap (λ (s : ℕ). record { width = width; element = element_at old size before width place; start = s; area = area }) start

pub same_parts : (old new widths : List ℕ) (areas : List (List ℕ)) (size place before limit : ℕ) → SameBefore old new limit → (place + 1) * size ≤ limit → before + sum widths ≤ size
    → parts_from new size place before widths areas ≡ parts_from old size place before widths areas
same_parts old new [] areas size place before limit same within held = refl
same_parts old new (width ∷ widths) [] size place before limit same within held = refl
same_parts old new (width ∷ widths) (area ∷ areas) size place before limit same within held =
    let whole = sum-cons width widths in
    ap (λ (part : FieldPart). part ∷ parts_from new size place (before + width) widths areas) (same_part old new size place before width limit area same within (omega arith))
    ∙ ap (λ (parts : List FieldPart). part_at old size place before width area ∷ parts) (same_parts old new widths areas size place (before + width) limit same within (omega arith))

-- an element ends before those of the fields behind it
pub ends_before : (widths : List ℕ) (k index : ℕ) → k < index → sum (take k widths) + get_or widths k 0 ≤ sum (take index widths)
ends_before widths k zero below = absurd (omega arith)
ends_before [] zero (suc index) below = omega arith
ends_before [] (suc k) (suc index) below = omega arith
ends_before (width ∷ widths) zero (suc index) below = omega (arith, sum-cons width (take index widths))
ends_before (width ∷ widths) (suc k) (suc index) below = omega (arith, ends_before widths k index (omega arith), sum-cons width (take k widths), sum-cons width (take index widths))

-- ---- bytes behind those of the fields

-- the bytes of the fields from an index on, with those of a record behind them
abbrev pub areas_from : ℕ → List (List ℕ) → List Value → List (List ℕ)
areas_from n areas values = map (λ part. part.1 ++ values_bytes (value_at part.0 values)) (enumerate_from n areas)

pub area_at : (n : ℕ) (areas : List (List ℕ)) (values : List Value) (k : ℕ) → k < length areas → area_of (areas_from n areas values) k ≡ area_of areas k ++ values_bytes (value_at (n + k) values)
area_at n [] values k inside = absurd (omega arith)
area_at n (area ∷ areas) values zero inside = let e : n ≡ n + 0 = omega arith in ap (λ (i : ℕ). area ++ values_bytes (value_at i values)) e
area_at n (area ∷ areas) values (suc k) inside =
    let e : n + 1 + k ≡ n + suc k = omega arith in
    area_at (n + 1) areas values k (omega arith) ∙ ap (λ (i : ℕ). area_of areas k ++ values_bytes (value_at i values)) e

pub length-areas_from : (n : ℕ) (areas : List (List ℕ)) (values : List Value) → length (areas_from n areas values) ≡ length areas
length-areas_from n [] values = refl
length-areas_from n (area ∷ areas) values = ap suc (length-areas_from (n + 1) areas values)

pub areas_are : (n : ℕ) (areas grown : List (List ℕ)) (values : List Value) → length grown ≡ length areas
    → ((k : ℕ) → k < length areas → area_of grown k ≡ area_of areas k ++ values_bytes (value_at (n + k) values)) → grown ≡ areas_from n areas values
areas_are n [] [] values long each = refl
areas_are n [] (more ∷ grown) values long each = absurd (omega arith)
areas_are n (area ∷ areas) [] values long each = absurd (omega arith)
areas_are n (area ∷ areas) (more ∷ grown) values long each =
    let none : n + 0 ≡ n = omega arith in
    ap (λ (a : List ℕ). a ∷ grown) (each 0 (omega arith) ∙ ap (λ (i : ℕ). area ++ values_bytes (value_at i values)) none)
    ∙ ap (λ (rest : List (List ℕ)). (area ++ values_bytes (value_at n values)) ∷ rest)
    (areas_are (n + 1) areas grown values (omega arith)
    (λ k inside. let e : n + suc k ≡ n + 1 + k = omega arith in each (suc k) (omega arith) ∙ ap (λ (i : ℕ). area_of areas k ++ values_bytes (value_at i values)) e))

span_grown : (width element start : ℕ) (area more : List ℕ) → IsSpan (record { width = width; element = element; start = start; area = area })
    → IsSpan (record { width = width; element = element; start = start; area = area ++ more })
    × (span_of (record { width = width; element = element; start = start; area = area ++ more }) ≡ span_of (record { width = width; element = element; start = start; area = area }))
span_grown width element start area more span =
    let end = offset_in width element in
    let long = length-append area more in
    let inside = span.inside in
    let rises = span.rises in
    let rest = length-drop start area in (
      record { rises = rises; inside = omega arith; empty = span.empty },
      ap (take (end - start)) (drop-append-le start area more (omega arith)) ∙ take-append-le (end - start) (drop start area) more (omega arith),
    )

text_grown : (width element start : ℕ) (area more : List ℕ) (value : Value) → SpellsText (record { width = width; element = element; start = start; area = area }) value
    → SpellsText (record { width = width; element = element; start = start; area = area ++ more }) value
text_grown width element start area more Value.Null h = ((span_grown width element start area more h.0).0, h.1)
text_grown width element start area more (Value.Text units) h =
    let grown = span_grown width element start area more h.0 in
    (grown.0, h.1, (h.2.0, grown.1 ∙ h.2.1))
text_grown width element start area more _ h = absurd h

bytes_grown : (width element start : ℕ) (area more : List ℕ) (value : Value) → SpellsBytes (record { width = width; element = element; start = start; area = area }) value
    → SpellsBytes (record { width = width; element = element; start = start; area = area ++ more }) value
bytes_grown width element start area more Value.Null h = ((span_grown width element start area more h.0).0, h.1)
bytes_grown width element start area more (Value.Bytes bytes) h =
    let grown = span_grown width element start area more h.0 in
    (grown.0, h.1, h.2 ∙ sym grown.1)
bytes_grown width element start area more _ h = absurd h

value_grown : (kind : FieldKind) (width element start : ℕ) (area more : List ℕ) (value : Value) → SpellsValue kind (record { width = width; element = element; start = start; area = area }) value
    → SpellsValue kind (record { width = width; element = element; start = start; area = area ++ more }) value
value_grown FieldKind.Text width element start area more value h = text_grown width element start area more value h
value_grown FieldKind.Bytes width element start area more value h = bytes_grown width element start area more value h
value_grown _ width element start area more value h = h

pub fields_grown : (n : ℕ) (fields : List Field) (widths first : List ℕ) (areas : List (List ℕ)) (size place before : ℕ) (more values : List Value)
    → SpellsFields fields (parts_from first size place before widths areas) values → SpellsFields fields (parts_from first size place before widths (areas_from n areas more)) values
fields_grown n fields [] first areas size place before more values h = h
fields_grown n fields (width ∷ widths) first [] size place before more values h = h
fields_grown n [] (width ∷ widths) first (area ∷ areas) size place before more values h = absurd h
fields_grown n (field ∷ fields) (width ∷ widths) first (area ∷ areas) size place before more [] h = absurd h
fields_grown n (field ∷ fields) (width ∷ widths) first (area ∷ areas) size place before more (value ∷ values) h = (
  value_grown field.kind width (element_at first size before width place) (start_at first size before width place) area (values_bytes (value_at n more)) value h.0,
  fields_grown (n + 1) fields widths first areas size place (before + width) more values h.1,
)

gap_grown : (kind : FieldKind) (width element start : ℕ) (area more : List ℕ) → IsGap kind (record { width = width; element = element; start = start; area = area })
    → IsGap kind (record { width = width; element = element; start = start; area = area ++ more })
gap_grown FieldKind.Text width element start area more h = h
gap_grown FieldKind.Bytes width element start area more h = h
gap_grown _ width element start area more h = h

pub gaps_grown : (n : ℕ) (fields : List Field) (widths first : List ℕ) (areas : List (List ℕ)) (size place before : ℕ) (more : List Value)
    → AllZip (λ field part. IsGap field.kind part) fields (parts_from first size place before widths areas)
    → AllZip (λ field part. IsGap field.kind part) fields (parts_from first size place before widths (areas_from n areas more))
gaps_grown n fields [] first areas size place before more h = h
gaps_grown n fields (width ∷ widths) first [] size place before more h = h
gaps_grown n [] (width ∷ widths) first (area ∷ areas) size place before more h = absurd h
gaps_grown n (field ∷ fields) (width ∷ widths) first (area ∷ areas) size place before more h = (
  gap_grown field.kind width (element_at first size before width place) (start_at first size before width place) area (values_bytes (value_at n more)) h.0,
  gaps_grown (n + 1) fields widths first areas size place (before + width) more h.1,
)
