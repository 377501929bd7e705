-- Lemmas on the values of what an element gives.
use Rattle.std.proofs.Common.{◌≡◌, ℕ, ◌-◌, List, take, drop, refl, ap, sym, ◌∙◌, subst}
use Rattle.schema_model.specs.declared.schema.FieldKind.{FieldKind}
use Rattle.row_model.specs.declared.row.Value.{Value}
use Rattle.object_codec.specs.Part.{FieldPart, HasNullBit, IsSpan, SpellsValue, span_of}
use Rattle.object_codec.specs.declared.part.Part.{Part}
use Rattle.object_codec.specs.Parts.{fixed_value, GivesPart, GivesRun}
use Rattle.object_codec.proofs.Faults.{span_is}

fixed_text : (part : FieldPart) (given : Part) → ((start end : ℕ) → given ≡ Part.Run start end → ⊥) → GivesRun part given → SpellsValue FieldKind.Text part (fixed_value given)
fixed_text part Part.Null not told = told
fixed_text part (Part.Run start end) not told = absurd (not start end refl)
fixed_text part _ not told = absurd told

fixed_bytes : (part : FieldPart) (given : Part) → ((start end : ℕ) → given ≡ Part.Run start end → ⊥) → GivesRun part given → SpellsValue FieldKind.Bytes part (fixed_value given)
fixed_bytes part Part.Null not told = told
fixed_bytes part (Part.Run start end) not told = absurd (not start end refl)
fixed_bytes part _ not told = absurd told

fixed_is : (kind : FieldKind) (part : FieldPart) (given : Part) → ((start end : ℕ) → given ≡ Part.Run start end → ⊥) → GivesPart kind part given → SpellsValue kind part (fixed_value given)
fixed_is (FieldKind.Reference name) part given not told = told
fixed_is FieldKind.Int part given not told = told
fixed_is FieldKind.Long part given not told = told
fixed_is FieldKind.Boolean part given not told = told
fixed_is FieldKind.Text part given not told = fixed_text part given not told
fixed_is FieldKind.Bytes part given not told = fixed_bytes part given not told

-- what has no bytes gives its value
pub fixed_given : (kind : FieldKind) (part : FieldPart) (given fixed : Part) → given ≡ fixed → ((start end : ℕ) → fixed ≡ Part.Run start end → ⊥) → GivesPart kind part given
    → SpellsValue kind part (fixed_value fixed)
fixed_given kind part given fixed is not told = fixed_is kind part fixed not (subst (GivesPart kind part) is told)

-- the bytes of a STRING that is no null
pub text_run : (kind : FieldKind) (part : FieldPart) (start end : ℕ) (bytes area : List ℕ) → kind ≡ FieldKind.Text → part.area ≡ area → bytes ≡ take (end - start) (drop start area)
    → GivesPart kind part (Part.Run start end) → IsSpan part × (HasNullBit part → ⊥) × (bytes ≡ span_of part)
text_run kind part start end bytes area is_text area_is are told =
    let run : GivesRun part (Part.Run start end) = subst (λ k. GivesPart k part (Part.Run start end)) is_text told in
    (run.0, run.1, are ∙ ap (λ all. take (end - start) (drop start all)) (sym area_is) ∙ span_is part start end run.2 run.3)

-- and of BYTES, which are its value
pub bytes_run : (kind : FieldKind) (part : FieldPart) (start end : ℕ) (bytes area : List ℕ) → (kind ≡ FieldKind.Text → ⊥) → part.area ≡ area → bytes ≡ take (end - start) (drop start area)
    → GivesPart kind part (Part.Run start end) → SpellsValue kind part (Value.Bytes bytes)
bytes_run FieldKind.Text part start end bytes area not area_is are told = absurd (not refl)
bytes_run FieldKind.Bytes part start end bytes area not area_is are told =
    (told.0, told.1, are ∙ ap (λ all. take (end - start) (drop start all)) (sym area_is) ∙ span_is part start end told.2 told.3)
bytes_run _ part start end bytes area not area_is are told = absurd told
