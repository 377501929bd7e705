-- The part of a field gives the value that is computed, or fails for a reason.
use Rattle.std.proofs.Common.{◌≡◌, ◌⊎◌, inl, inr, ℕ, ◌+◌, ◌-◌, ◌^◌, ◌<◌, List, [], ◌∷◌, length, true, false, Some, refl, sym, ap, subst, ◌∙◌, arith}
use Rattle.std.specs.List.{AllZip}
use Rattle.hol_varint.specs.Zigzag.{unzigzag}
use Rattle.hol_varint.specs.TextUnits.{AreUnitsIn, units_bytes}
use Rattle.bit_array.proofs.Elements.{element_of-lt}
use Rattle.schema_model.specs.declared.reason.Reason.{Reason}
use Rattle.schema_model.specs.declared.schema.Field.{Field}
use Rattle.schema_model.specs.declared.schema.FieldKind.{FieldKind}
use Rattle.row_model.specs.declared.row.Value.{Value}
use Rattle.object_codec.specs.Part.{FieldPart, FailsValue, HasNullBit, IsSpan, SpellsValue, end_of, span_of}
use Rattle.object_codec.specs.ObjectPlace.{FirstFails, IsKindWidth, SpellsFields, part_at, parts_from}
use Rattle.type_rows.specs.WellFormed.{IsWidth}
use Rattle.type_rows.specs.Value.{units_in}
use Rattle.type_rows.proofs.Deciding.{HoldsOrNot, all_or_not, at_most_or_not, both_hold, equal_or_not, below_or_not, same_or_not}
use Rattle.type_rows.proofs.Values.{units_back}

abbrev GivesOrFails : FieldKind → FieldPart → Type 0
GivesOrFails kind part = ((value : Value) × SpellsValue kind part value) ⊎ ((reason : Reason) × FailsValue kind part reason)

int_or_fails : (part : FieldPart) → GivesOrFails FieldKind.Int part
int_or_fails part = elim (equal_or_not part.element (2 ^ part.width - 1)) [
  | inl ones ↦ inl (Value.Null, ones)
  | inr other ↦ elim (at_most_or_not part.element (2 ^ 32 - 2)) [
    | inl small ↦ inl (Value.Int (unzigzag part.element), (other, small, refl))
    | inr great ↦ inr (Reason.BadValue, (other, omega (arith, great)))
  ]
]

long_or_fails : (part : FieldPart) → GivesOrFails FieldKind.Long part
long_or_fails part = elim (equal_or_not part.element (2 ^ part.width - 1)) [
  | inl ones ↦ inl (Value.Null, ones)
  | inr other ↦ inl (Value.Long (unzigzag part.element), (other, refl))
]

reference_or_fails : (name : List ℕ) (part : FieldPart) → GivesOrFails (FieldKind.Reference name) part
reference_or_fails name part = elim (equal_or_not part.element (2 ^ part.width - 1)) [
  | inl ones ↦ inl (Value.Null, ones)
  | inr other ↦ elim (at_most_or_not part.element (2 ^ 32 - 1)) [
    | inl small ↦ inl (Value.Ref part.element, (other, small, refl))
    | inr great ↦ inr (Reason.BadValue, (other, omega (arith, great)))
  ]
]

boolean_or_fails : (part : FieldPart) → part.element < 4 → GivesOrFails FieldKind.Boolean part
boolean_or_fails part small = elim (equal_or_not part.element 0) [
  | inl zero ↦ inl (Value.Bool false, zero)
  | inr some ↦ elim (equal_or_not part.element 1) [
    | inl one ↦ inl (Value.Bool true, one)
    | inr more ↦ elim (equal_or_not part.element 2) [
      | inl two ↦ inr (Reason.BadValue, two)
      | inr other ↦ inl (Value.Null, omega (arith, small, some, more, other))
    ]
  ]
]

empty_or_not : (part : FieldPart) → HoldsOrNot (HasNullBit part → end_of part ≡ part.start)
empty_or_not part = elim (at_most_or_not (2 ^ (part.width - 1)) part.element) [
  | inl null ↦ elim (equal_or_not (end_of part) part.start) [ inl none ↦ inl (λ _. none) | inr some ↦ inr (λ h. some (h null)) ]
  | inr other ↦ inl (λ null. absurd (other null))
]

span_or_not : (part : FieldPart) → HoldsOrNot (IsSpan part)
span_or_not part = elim (both_hold (at_most_or_not part.start (end_of part)) (both_hold (at_most_or_not (end_of part) (length part.area)) (empty_or_not part))) [
  | inl h ↦ inl (record { rises = h.0; inside = h.1.0; empty = h.1.1 })
  | inr against ↦ inr (λ span. against (span.rises, (span.inside, span.empty)))
]

-- Bytes are those of the units that are computed, or of none.
units_or_not : (bytes : List ℕ) → HoldsOrNot (AreUnitsIn bytes (units_in bytes))
units_or_not bytes = both_hold (all_or_not (λ unit. unit < 2 ^ 16) (λ unit. below_or_not unit (2 ^ 16)) (units_in bytes)) (same_or_not bytes (units_bytes (units_in bytes)))

units_are : (bytes units : List ℕ) → AreUnitsIn bytes units → units_in bytes ≡ units
units_are bytes units h = ap units_in h.1 ∙ units_back units

text_or_fails : (part : FieldPart) → GivesOrFails FieldKind.Text part
text_or_fails part = elim (span_or_not part) [
  | inr bad ↦ inr (Reason.BadPointers, bad)
  | inl span ↦ elim (at_most_or_not (2 ^ (part.width - 1)) part.element) [
    | inl null ↦ inl (Value.Null, (span, null))
    | inr other ↦ elim (units_or_not (span_of part)) [
      | inl are ↦ inl (Value.Text (units_in (span_of part)), (span, other, are))
      | inr against ↦ inr (Reason.BadText, (span, other, λ units are. against (subst (AreUnitsIn (span_of part)) (sym (units_are (span_of part) units are)) are)))
    ]
  ]
]

bytes_or_fail : (part : FieldPart) → GivesOrFails FieldKind.Bytes part
bytes_or_fail part = elim (span_or_not part) [
  | inr bad ↦ inr (Reason.BadPointers, bad)
  | inl span ↦ elim (at_most_or_not (2 ^ (part.width - 1)) part.element) [
    | inl null ↦ inl (Value.Null, (span, null))
    | inr other ↦ inl (Value.Bytes (span_of part), (span, other, refl))
  ]
]

value_or_fails : (kind : FieldKind) (part : FieldPart) → IsKindWidth kind part.width → part.element < 2 ^ part.width → GivesOrFails kind part
value_or_fails (FieldKind.Reference name) part wide small = reference_or_fails name part
value_or_fails FieldKind.Int part wide small = int_or_fails part
value_or_fails FieldKind.Long part wide small = long_or_fails part
value_or_fails FieldKind.Boolean part wide small = boolean_or_fails part (subst (λ w. part.element < 2 ^ w) wide small)
value_or_fails FieldKind.Text part wide small = text_or_fails part
value_or_fails FieldKind.Bytes part wide small = bytes_or_fail part

abbrev pub RecordOrFails : List Field → List FieldPart → Type 0
RecordOrFails fields parts = ((values : List Value) × SpellsFields fields parts values) ⊎ ((reason : Reason) × FirstFails fields parts reason)

one_more : (field : Field) (part : FieldPart) (fields : List Field) (parts : List FieldPart) → GivesOrFails field.kind part → RecordOrFails fields parts → RecordOrFails (field ∷ fields) (part ∷ parts)
one_more field part fields parts (inr bad) rest = inr (bad.0, inl bad.1)
one_more field part fields parts (inl given) (inr bad) = inr (bad.0, inr (given, bad.1))
one_more field part fields parts (inl given) (inl rest) = inl (given.0 ∷ rest.0, (given.1, rest.1))

pub record_or_fails : (max : ℕ) (fields : List Field) (widths first : List ℕ) (areas : List (List ℕ)) (size place before : ℕ) → AllZip (λ (field : Field) width. IsWidth (Some max) field.kind width) fields widths
    → length areas ≡ length fields → RecordOrFails fields (parts_from first size place before widths areas)
record_or_fails max [] [] first areas size place before wide long = inl ([], tt)
record_or_fails max (field ∷ fields) (width ∷ widths) first (area ∷ areas) size place before wide long =
    one_more field (part_at first size place before width area) fields (parts_from first size place (before + width) widths areas)
    (value_or_fails field.kind (part_at first size place before width area) wide.0.1 (element_of-lt first _ width))
    (record_or_fails max fields widths first areas size place (before + width) wide.1 (omega (arith, long)))
record_or_fails max (field ∷ fields) (width ∷ widths) first [] size place before wide long = absurd (omega (arith, long))
record_or_fails max [] (width ∷ widths) first areas size place before wide long = absurd wide
record_or_fails max (field ∷ fields) [] first areas size place before wide long = absurd wide
