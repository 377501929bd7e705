-- The numbers of a row that the place of a section spells are in range, where the section has the widths and areas of its fields.
use Rattle.std.proofs.Common.{◌≡◌, ℕ, ◌+◌, ◌*◌, ◌/◌, ◌%◌, ◌-◌, ◌^◌, ◌<◌, ◌≤◌, ◌==◌, List, [], ◌∷◌, zero, suc, cond, true, false, Option, Some, sym, ◌∙◌, subst, arith}
use Rattle.std.specs.Prelude.{All, sum, pos, negsuc, FitsSigned}
use mir.Syntax.{w32, w64}
use Rattle.std.specs.List.{AllZip}
use Rattle.std.specs.Ordering.{is_eq, nat_cmp}
use Rattle.std.specs.FinMap.{find, entries, get, get-entries}
use Rattle.schema_model.specs.declared.schema.FieldKind.{FieldKind}
use Rattle.schema_model.specs.declared.schema.Field.{Field}
use Rattle.schema_model.specs.declared.schema.Shape.{Shape}
use Rattle.row_model.specs.declared.row.Value.{Value}
use Rattle.row_model.specs.declared.row.Row.{Row}
use Rattle.row_model.specs.Row.{IsValueInRange, IsRowInRange}
use Rattle.row_model.specs.Table.{RowMap}
use Rattle.object_codec.specs.Part.{FieldPart, SpellsValue}
use Rattle.object_codec.specs.ObjectPlace.{SpellsFields, parts_from, part_at, element_at}
use Rattle.bucket_codec.specs.Run.{keys_of, IsPairInRange}
use Rattle.std.proofs.Math.Pow.{pow_mono}
use Rattle.std.proofs.lemmas.List.Elements.{All-cons}
use Rattle.hol_varint.specs.Zigzag.{unzigzag}
use Rattle.bit_array.proofs.Elements.{element_of-lt}
use Rattle.type_rows.specs.WellFormed.{IsWidth}
use Rattle.type_rows.proofs.Places.{narrow_one}
use Rattle.type_rows.specs.declared.section.Section.{Section}
use Rattle.type_rows.specs.Loads.{SectionIs, IsSpelledIn}
use Rattle.blob_faults.proofs.SettledRows.{HasFields}

-- Each number of 32 bits is the zigzag number of one in 32 bits, and so for 64.
int_ranges : (number : ℕ) → number < 2 ^ 32 → FitsSigned w32 (unzigzag number)
int_ranges number small = elim (number % 2 == 0) as (λ b. FitsSigned w32 (cond b (pos (number / 2)) (negsuc (number / 2)))) [ true ↦ grind arith | false ↦ grind arith ]

long_ranges : (number : ℕ) → number < 2 ^ 64 → FitsSigned w64 (unzigzag number)
long_ranges number small = elim (number % 2 == 0) as (λ b. FitsSigned w64 (cond b (pos (number / 2)) (negsuc (number / 2)))) [ true ↦ grind arith | false ↦ grind arith ]

-- What a part of 64 bits gives is in range.
value_ranges : (kind : FieldKind) (part : FieldPart) (value : Value) → part.element < 2 ^ 64 → SpellsValue kind part value → IsValueInRange value
value_ranges (FieldKind.Reference name) part Value.Null small h = tt
value_ranges (FieldKind.Reference name) part (Value.Ref ordinal) small h = omega (arith, h.1, h.2)
value_ranges FieldKind.Int part Value.Null small h = tt
value_ranges FieldKind.Int part (Value.Int number) small h = subst (FitsSigned w32) (sym h.2) (int_ranges part.element (omega (arith, h.1)))
value_ranges FieldKind.Long part Value.Null small h = tt
value_ranges FieldKind.Long part (Value.Long number) small h = subst (FitsSigned w64) (sym h.1) (long_ranges part.element small)
value_ranges FieldKind.Boolean part Value.Null small h = tt
value_ranges FieldKind.Boolean part (Value.Bool flag) small h = tt
value_ranges FieldKind.Text part Value.Null small h = tt
value_ranges FieldKind.Text part (Value.Text units) small h = h.2.0
value_ranges FieldKind.Bytes part Value.Null small h = tt
value_ranges FieldKind.Bytes part (Value.Bytes bytes) small h = tt
value_ranges _ part _ small h = absurd h

-- So are the values of a record whose widths are at most 64.
values_range : (max : Option ℕ) (fields : List Field) (widths : List ℕ) (first : List ℕ) (size place before : ℕ) (areas : List (List ℕ)) (values : List Value) → AllZip (λ (field : Field) width. IsWidth max field.kind width) fields widths
    → SpellsFields fields (parts_from first size place before widths areas) values → All IsValueInRange values
values_range max (f ∷ fs) (w ∷ ws) first size place before (a ∷ areas) (v ∷ vs) wide h =
    let narrow = narrow_one max f w wide.0 in
    let top : 2 ^ w ≤ 2 ^ 64 = pow_mono {i = w} {j = 64} narrow in
    let small : element_at first size before w place < 2 ^ 64 = let low = element_of-lt first (place * size + before) w in omega arith in
    All-cons IsValueInRange v vs (value_ranges f.kind (part_at first size place before w a) v small h.0) (values_range max fs ws first size place (before + w) areas vs wide.1 h.1)
values_range max (f ∷ fs) (w ∷ ws) first size place before [] values wide h = absurd h
values_range max (f ∷ fs) (w ∷ ws) first size place before (a ∷ areas) [] wide h = absurd h
values_range max (f ∷ fs) [] first size place before areas values wide h = absurd wide
values_range max [] (w ∷ ws) first size place before areas values wide h = absurd wide
values_range max [] [] first size place before areas (v ∷ vs) wide h = absurd h
values_range max [] [] first size place before areas [] wide h = λ k d l. absurd (omega arith)

-- So are the numbers of a list, and of a set or map.
list_ranges : (ordinals : List ℕ) → All (λ ordinal. ordinal ≤ 2 ^ 32 - 1) ordinals → All (λ ordinal. ordinal < 2 ^ 32) ordinals
list_ranges ordinals all k d l = let below = all k d l in omega arith

key_ranges : (pairs : List (ℕ × ℕ)) → All IsPairInRange pairs → All (λ ordinal. ordinal < 2 ^ 32) (keys_of pairs)
key_ranges [] all k d l = absurd (omega arith)
key_ranges (pair ∷ pairs) all zero d l = (all 0 pair (omega arith)).0
key_ranges (pair ∷ pairs) all (suc k) d l = key_ranges pairs (λ i e h. all (suc i) e (omega arith)) k d (omega arith)

pub row_ranges : (shape : Shape) (section : Section) (o : ℕ) (row : Row) → HasFields shape section → IsSpelledIn shape section (o, row) → IsRowInRange row
row_ranges (Shape.Object key fields) section o (Row.Object values) has h = values_range section.max fields section.widths section.first (sum section.widths) o 0 section.areas values has.0 h
row_ranges (Shape.Object key fields) section o _ has h = absurd h
row_ranges (Shape.List element) section o (Row.List ordinals) has h = list_ranges ordinals h.small
row_ranges (Shape.List element) section o _ has h = absurd h
row_ranges (Shape.Set element) section o (Row.Set ordinals) has h = subst (All (λ ordinal. ordinal < 2 ^ 32)) (sym h.1) (key_ranges h.0 h.2.run.ranges)
row_ranges (Shape.Set element) section o _ has h = absurd h.1
row_ranges (Shape.Map key value) section o (Row.Map pairs) has h = subst (All IsPairInRange) (sym h.1) h.2.run.ranges
row_ranges (Shape.Map key value) section o _ has h = absurd h.1

-- A row that is found under an ordinal stands in the entries.
found : (P : ℕ × Row → Type 0) (o : ℕ) (es : List (ℕ × Row)) (row : Row) → find nat_cmp o es ≡ Some row → All P es → (key : ℕ) × P (key, row)
found P o [] row is all = absurd cc
found P o (e ∷ es) row is all =
    elim (is_eq (nat_cmp o e.0)) as (λ b. cond b (Some e.1) (find nat_cmp o es) ≡ Some row → (key : ℕ) × P (key, row)) [
      | true ↦ λ same. let value : e.1 ≡ row = cc in (e.0, subst (λ r. P (e.0, r)) value (all 0 e (omega arith)))
      | false ↦ λ same. found P o es row same (λ k d h. all (suc k) d (omega arith))
    ] is

spelled_at : (shape : Shape) (section : Section) (rows : RowMap) (o : ℕ) (row : Row) → SectionIs shape section rows → get rows o ≡ Some row → (key : ℕ) × IsSpelledIn shape section (key, row)
spelled_at shape section rows o row is at = found (IsSpelledIn shape section) o (entries rows) row (sym (get-entries rows o) ∙ at) is.spelled

-- a row of a section is in range
pub rows_range : (shape : Shape) (section : Section) (rows : RowMap) (o : ℕ) (row : Row) → HasFields shape section → SectionIs shape section rows → get rows o ≡ Some row → IsRowInRange row
rows_range shape section rows o row has is at = let entry = spelled_at shape section rows o row is at in row_ranges shape section entry.0 row has entry.1
