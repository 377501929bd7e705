-- The rows that places spell hold no least INT or LONG: the numbers that would spell one are null.
use Rattle.std.proofs.Common.{◌≡◌, ℕ, ◌+◌, ◌*◌, ◌/◌, ◌%◌, ◌-◌, ◌^◌, ◌<◌, ◌≤◌, ◌==◌, Bool, true, false, cond, List, [], ◌∷◌, map, Option, refl, ap, ◌∙◌, inl, inr, arith}
use Rattle.std.specs.Prelude.{pos, negsuc, sum}
use Rattle.std.specs.List.{AllZip}
use Rattle.std.proofs.Math.Pow.{pow_mono}
use Rattle.std.proofs.lemmas.Bool.{cases_lt, eqb-false, ne_eqb}
use Rattle.hol_varint.specs.Zigzag.{unzigzag}
use Rattle.bit_array.proofs.Elements.{element_of-lt}
use Rattle.schema_model.specs.declared.schema.Field.{Field}
use Rattle.schema_model.specs.declared.schema.FieldKind.{FieldKind}
use Rattle.schema_model.specs.declared.schema.Shape.{Shape}
use Rattle.row_model.specs.declared.row.Row.{Row}
use Rattle.row_model.specs.declared.row.Value.{Value}
use Rattle.row_model.specs.Row.{is_least, stored_row, stored_value}
use Rattle.object_codec.specs.ObjectPlace.{SpellsFields, part_at, parts_from}
use Rattle.object_codec.specs.Part.{FieldPart, SpellsValue}
use Rattle.type_rows.specs.declared.section.Section.{Section}
use Rattle.type_rows.specs.Loads.{Spells}
use Rattle.type_rows.specs.WellFormed.{AreWidths, IsWidth}
use Rattle.type_rows.proofs.Places.{narrow_one}

-- ---- one value

int_kept : (number : ℕ) → number ≤ 2 ^ 32 - 2 → is_least 32 (unzigzag number) ≡ false
int_kept number small = by_parity (number % 2 == 0) refl
  where
    by_parity : (even : Bool) → (number % 2 == 0) ≡ even → is_least 32 (cond even (pos (number / 2)) (negsuc (number / 2))) ≡ false
    by_parity true is = refl
    by_parity false is = ne_eqb (number / 2) (2 ^ 31 - 1) (λ half. eqb-false (number % 2) 0 is (omega arith))

long_kept : (number : ℕ) → number < 2 ^ 64 - 1 → is_least 64 (unzigzag number) ≡ false
long_kept number small = by_parity (number % 2 == 0) refl
  where
    by_parity : (even : Bool) → (number % 2 == 0) ≡ even → is_least 64 (cond even (pos (number / 2)) (negsuc (number / 2))) ≡ false
    by_parity true is = refl
    by_parity false is = ne_eqb (number / 2) (2 ^ 63 - 1) (λ half. eqb-false (number % 2) 0 is (omega arith))

-- a number of few bits that is not all ones
below_ones : (width number : ℕ) → width ≤ 64 → number < 2 ^ width → (number ≡ 2 ^ width - 1 → ⊥) → number < 2 ^ 64 - 1
below_ones width number narrow low other =
    elim (cases_lt (number + 1) (2 ^ width)) [
      | inl more ↦ let top : 2 ^ width ≤ 2 ^ 64 = pow_mono {i = width} {j = 64} narrow in omega (arith, more, top)
      | inr ones ↦ absurd (other (omega (arith, ones, low)))
    ]

value_kept : (kind : FieldKind) (part : FieldPart) (value : Value) → part.width ≤ 64 → part.element < 2 ^ part.width → SpellsValue kind part value → stored_value value ≡ value
value_kept (FieldKind.Reference name) part Value.Null narrow low h = refl
value_kept (FieldKind.Reference name) part (Value.Ref ordinal) narrow low h = refl
value_kept FieldKind.Int part Value.Null narrow low h = refl
value_kept FieldKind.Int part (Value.Int number) narrow low h =
    ap (λ b. cond b Value.Null (Value.Int number)) (ap (is_least 32) h.2 ∙ int_kept part.element h.1)
value_kept FieldKind.Long part Value.Null narrow low h = refl
value_kept FieldKind.Long part (Value.Long number) narrow low h =
    ap (λ b. cond b Value.Null (Value.Long number)) (ap (is_least 64) h.1 ∙ long_kept part.element (below_ones part.width part.element narrow low h.0))
value_kept FieldKind.Boolean part Value.Null narrow low h = refl
value_kept FieldKind.Boolean part (Value.Bool flag) narrow low h = refl
value_kept FieldKind.Text part Value.Null narrow low h = refl
value_kept FieldKind.Text part (Value.Text units) narrow low h = refl
value_kept FieldKind.Bytes part Value.Null narrow low h = refl
value_kept FieldKind.Bytes part (Value.Bytes bytes) narrow low h = refl
value_kept _ part _ narrow low h = absurd h

-- ---- one row

abbrev AreNarrow : List Field → List ℕ → Type 0
AreNarrow fields widths = AllZip (λ field width. width ≤ 64) fields widths

values_kept : (fields : List Field) (widths first : List ℕ) (size place before : ℕ) (areas : List (List ℕ)) (values : List Value) → AreNarrow fields widths
    → SpellsFields fields (parts_from first size place before widths areas) values → map stored_value values ≡ values
values_kept (f ∷ fs) (w ∷ ws) first size place before (a ∷ areas) (v ∷ vs) narrow h =
    let one = value_kept f.kind (part_at first size place before w a) v narrow.0 (element_of-lt first (place * size + before) w) h.0 in
    let rest = values_kept fs ws first size place (before + w) areas vs narrow.1 h.1 in
    λ i. one i ∷ rest i
values_kept (f ∷ fs) (w ∷ ws) first size place before [] values narrow h = absurd h
values_kept (f ∷ fs) (w ∷ ws) first size place before (a ∷ areas) [] narrow h = absurd h
values_kept (f ∷ fs) [] first size place before areas values narrow h = absurd narrow
values_kept [] (w ∷ ws) first size place before areas values narrow h = absurd narrow
values_kept [] [] first size place before areas (v ∷ vs) narrow h = absurd h
values_kept [] [] first size place before areas [] narrow h = refl

-- the widths that a kind may have are 64 at most
are_narrow : (max : Option ℕ) (fields : List Field) (widths : List ℕ) → AllZip (λ (field : Field) width. IsWidth max field.kind width) fields widths → AreNarrow fields widths
are_narrow max [] [] h = h
are_narrow max [] (width ∷ widths) h = absurd h
are_narrow max (field ∷ fields) [] h = absurd h
are_narrow max (field ∷ fields) (width ∷ widths) h = (narrow_one max field width h.0, are_narrow max fields widths h.1)

pub stored_place : (shape : Shape) (max : Option ℕ) (section : Section) (o : ℕ) (row : Row) → AreWidths shape max section.widths → Spells shape section o row → stored_row row ≡ row
stored_place (Shape.Object key fields) max section o (Row.Object values) wide h = ap Row.Object (values_kept fields section.widths section.first (sum section.widths) o 0 section.areas values (are_narrow max fields section.widths wide) h)
stored_place (Shape.Object key fields) max section o _ wide h = absurd h
stored_place (Shape.List element) max section o (Row.List ordinals) wide h = refl
stored_place (Shape.List element) max section o _ wide h = absurd h
stored_place (Shape.Set element) max section o (Row.Set ordinals) wide h = refl
stored_place (Shape.Set element) max section o _ wide h = absurd h.1
stored_place (Shape.Map key value) max section o (Row.Map pairs) wide h = refl
stored_place (Shape.Map key value) max section o _ wide h = absurd h.1
