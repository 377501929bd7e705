-- Lemmas on parts that give values, and on those that give none.
use Rattle.std.proofs.Common.{◌≡◌, ℕ, ◌-◌, ◌<◌, List, [], length, take, drop, get_or, ap, sym, refl, ◌∙◌, subst}
use Rattle.std.proofs.lemmas.List.{get_or_default}
use Rattle.std.proofs.lemmas.Option.{unwrap_or-slice_get}
use Rattle.hol_varint.specs.TextUnits.{AreUnitsIn, IsBadText}
use Rattle.row_model.specs.Areas.{area_of}
use Rattle.schema_model.specs.declared.schema.FieldKind.{FieldKind}
use Rattle.row_model.specs.declared.row.Value.{Value}
use Rattle.object_codec.specs.Part.{FieldPart, span_of, end_of, SpellsValue, HasBadText}
use Rattle.object_codec.specs.declared.part.Part.{Part}
use Rattle.object_codec.specs.Parts.{fixed_value, GivesPart, GivesRun}

-- the bytes from where they start up to where they end
pub span_is : (part : FieldPart) (start end : ℕ) → start ≡ part.start → end ≡ end_of part → take (end - start) (drop start part.area) ≡ span_of part
span_is part start end s e = ap (λ k. take (end - k) (drop k part.area)) s ∙ ap (λ k. take (k - part.start) (drop part.start part.area)) e

-- a STRING whose bytes are those of units has a value
pub text_given : (kind : FieldKind) (part : FieldPart) (given : Part) (start end : ℕ) → kind ≡ FieldKind.Text → given ≡ Part.Run start end → GivesPart kind part given
    → (units : List ℕ) × AreUnitsIn (take (end - start) (drop start part.area)) units → (value : Value) × SpellsValue kind part value
text_given kind part given start end is_text is_run told units =
    let run : GivesRun part (Part.Run start end) = subst (λ g. GivesPart FieldKind.Text part g) is_run (subst (λ k. GivesPart k part given) is_text told) in
    let there : AreUnitsIn (span_of part) units.0 = subst (λ bytes. AreUnitsIn bytes units.0) (span_is part start end run.2 run.3) units.1 in
    subst (λ k. (value : Value) × SpellsValue k part value) (sym is_text) (Value.Text units.0, (run.0, run.1, there))

-- and one whose bytes are not fails
pub text_bad : (kind : FieldKind) (part : FieldPart) (given : Part) (start end : ℕ) → kind ≡ FieldKind.Text → given ≡ Part.Run start end → GivesPart kind part given
    → IsBadText (take (end - start) (drop start part.area)) → HasBadText kind part
text_bad kind part given start end is_text is_run told bad =
    let run : GivesRun part (Part.Run start end) = subst (λ g. GivesPart FieldKind.Text part g) is_run (subst (λ k. GivesPart k part given) is_text told) in
    let there : IsBadText (span_of part) = subst IsBadText (span_is part start end run.2 run.3) bad in
    subst (λ k. HasBadText k part) (sym is_text) (run.0, run.1, there)

run_given : (part : FieldPart) (given : Part) → GivesRun part given → (value : Value) × SpellsValue FieldKind.Bytes part value
run_given part Part.Null told = (Value.Null, told)
run_given part (Part.Run start end) told = (Value.Bytes (span_of part), (told.0, told.1, refl))
run_given part _ told = absurd told

null_given : (part : FieldPart) (given : Part) → ((start end : ℕ) → given ≡ Part.Run start end → ⊥) → GivesRun part given → (value : Value) × SpellsValue FieldKind.Text part value
null_given part Part.Null other told = (Value.Null, told)
null_given part (Part.Run start end) other told = absurd (other start end refl)
null_given part _ other told = absurd told

-- each other part has a value
pub other_given : (kind : FieldKind) (part : FieldPart) (given : Part) → (kind ≡ FieldKind.Text → (start end : ℕ) → given ≡ Part.Run start end → ⊥) → GivesPart kind part given
    → (value : Value) × SpellsValue kind part value
other_given (FieldKind.Reference name) part given other told = (fixed_value given, told)
other_given FieldKind.Int part given other told = (fixed_value given, told)
other_given FieldKind.Long part given other told = (fixed_value given, told)
other_given FieldKind.Boolean part given other told = (fixed_value given, told)
other_given FieldKind.Text part given other told = null_given part given (other refl) told
other_given FieldKind.Bytes part given other told = run_given part given told

-- an item of the fields' bytes is the area of its field
pub area_at : (areas : List (List ℕ)) (index : ℕ) (item bytes : List ℕ) → index < length areas → item ≡ get_or areas index item → bytes ≡ item → bytes ≡ area_of areas index
area_at areas index item bytes inside is lent = lent ∙ is ∙ get_or_default areas index item [] inside ∙ sym (unwrap_or-slice_get areas index [])
