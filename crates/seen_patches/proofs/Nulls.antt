-- Parts that are null and no more.
use Rattle.std.proofs.Common.{◌≡◌, inl, ℕ, zero, suc, ◌-◌, ◌^◌, ◌≤◌, [], ◌∷◌, refl, sym, subst, ◌∙◌, arith}
use Rattle.schema_model.specs.declared.reason.Reason.{Reason}
use Rattle.schema_model.specs.declared.schema.Field.{Field}
use Rattle.schema_model.specs.declared.schema.FieldKind.{FieldKind}
use Rattle.row_model.specs.declared.row.Value.{Value}
use Rattle.object_codec.specs.Part.{FieldPart, FailsValue, HasNullBit, IsSpan, SpellsValue, offset_in}
use Rattle.object_codec.proofs.Values.{spelled_or_failed}
use Rattle.type_rows.proofs.Values.{value_given}
use Rattle.seen_patches.specs.Nulls.{null_element, null_width}

-- where the bytes of a null start
abbrev pub null_start : FieldKind → ℕ → ℕ
null_start kind zero = 0
null_start kind (suc earlier) = offset_in (null_width kind) (null_element kind)

-- the part of a field at a place of a column of nulls
abbrev pub null_part : FieldKind → ℕ → FieldPart
null_part kind place = record { width = null_width kind; element = null_element kind; start = null_start kind place; area = [] }

no_start : (kind : FieldKind) (place : ℕ) → null_width kind ≡ 1 → null_start kind place ≡ 0
no_start kind zero one = refl
no_start kind (suc earlier) one = subst (λ (w : ℕ). offset_in w (2 ^ w - 1) ≡ 0) (sym one) refl

null_span : (kind : FieldKind) (place : ℕ) → null_width kind ≡ 1 → IsSpan (null_part kind place) × HasNullBit (null_part kind place)
null_span kind place one =
    let start = no_start kind place one in
    let end : offset_in (null_width kind) (null_element kind) ≡ 0 = subst (λ (w : ℕ). offset_in w (2 ^ w - 1) ≡ 0) (sym one) refl in
    let bit : 2 ^ (null_width kind - 1) ≤ null_element kind = subst (λ (w : ℕ). 2 ^ (w - 1) ≤ 2 ^ w - 1) (sym one) (omega arith) in
    (record { rises = omega (arith, start, end); inside = omega (arith, end); empty = λ null. end ∙ sym start }, bit)

pub null_spelled : (kind : FieldKind) (place : ℕ) → SpellsValue kind (null_part kind place) Value.Null
null_spelled (FieldKind.Reference name) place = refl
null_spelled FieldKind.Int place = refl
null_spelled FieldKind.Long place = refl
null_spelled FieldKind.Boolean place = refl
null_spelled FieldKind.Text place = null_span FieldKind.Text place refl
null_spelled FieldKind.Bytes place = null_span FieldKind.Bytes place refl

-- it gives no other value
pub null_alone : (kind : FieldKind) (place : ℕ) (value : Value) → SpellsValue kind (null_part kind place) value → value ≡ Value.Null
null_alone kind place value spelled = sym (value_given kind (null_part kind place) value spelled) ∙ value_given kind (null_part kind place) Value.Null (null_spelled kind place)

-- and it never fails
pub null_holds : (kind : FieldKind) (place : ℕ) (reason : Reason) → FailsValue kind (null_part kind place) reason → ⊥
null_holds kind place reason fails =
    let field : Field = record { name = []; kind = kind } in
    spelled_or_failed (field ∷ []) (null_part kind place ∷ []) (Value.Null ∷ []) reason (null_spelled kind place, tt) (inl fails)
