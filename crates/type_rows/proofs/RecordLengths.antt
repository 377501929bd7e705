-- The variable bytes of a value where it stands, and whether it fits its width.
use Rattle.std.proofs.Common.{inl, ◌≡◌, ℕ, ◌-◌, ◌/◌, ◌%◌, ◌^◌, ◌<◌, ◌==◌, [], ◌∷◌, true, false, cond, length, drop, pos, negsuc, refl, ap, sym, subst, arith}
use Rattle.std.proofs.lemmas.Bool.Decides.{nat_tests}
use Rattle.std.proofs.lemmas.List.{length-drop, length-take}
use Rattle.hol_varint.specs.Zigzag.{unzigzag, zigzag}
use Rattle.hol_varint.specs.TextUnits.{units_bytes}
use Rattle.schema_model.specs.declared.schema.Field.{Field}
use Rattle.schema_model.specs.declared.schema.FieldKind.{FieldKind}
use Rattle.schema_model.specs.declared.reason.Reason.{Reason}
use Rattle.row_model.specs.declared.row.Value.{Value}
use Rattle.object_codec.specs.Packing.{HasBytes}
use Rattle.object_codec.specs.Part.{FailsValue, FieldPart, IsSpan, SpellsValue, end_of, span_of}
use Rattle.object_codec.specs.ObjectPlace.{IsKindWidth}
use Rattle.object_codec.proofs.Values.{spelled_or_failed}
use Rattle.object_codec.specs.declared.part.Part.{Part}
use Rattle.object_codec.specs.Parts.{GivesPart, GivesRun}
use Rattle.type_rows.specs.WordsHeld.{value_bytes}
use Rattle.type_rows.specs.Holds.{FitsWidth}
use Rattle.type_rows.specs.FieldEnds.{EndFits, run_bytes}

span_long : (part : FieldPart) → IsSpan part → length (span_of part) ≡ end_of part - part.start
span_long part span =
    let rest = length-drop part.start part.area in
    let taken = length-take (end_of part - part.start) (drop part.start part.area) in
    omega (arith, rest, taken, span.rises, span.inside)

text_length : (part : FieldPart) (start end : ℕ) (value : Value) → GivesRun part (Part.Run start end) → SpellsValue FieldKind.Text part value → end - start ≡ value_bytes value
text_length part start end Value.Null run spells = absurd (run.1 spells.1)
text_length part start end (Value.Text units) run spells =
    let same : length (span_of part) ≡ length (units_bytes units) = ap length spells.2.1 in
    omega (arith, run.2, run.3, span_long part run.0, same)
text_length part start end _ run spells = absurd spells

bytes_length : (part : FieldPart) (start end : ℕ) (value : Value) → GivesRun part (Part.Run start end) → SpellsValue FieldKind.Bytes part value → end - start ≡ value_bytes value
bytes_length part start end Value.Null run spells = absurd (run.1 spells.1)
bytes_length part start end (Value.Bytes bytes) run spells =
    let same : length bytes ≡ length (span_of part) = ap length spells.2 in
    omega (arith, run.2, run.3, span_long part run.0, same)
bytes_length part start end _ run spells = absurd spells

-- A value without variable bytes.
pub no_bytes : (kind : FieldKind) (part : FieldPart) (value : Value) → (HasBytes kind → ⊥) → SpellsValue kind part value → 0 ≡ value_bytes value
no_bytes (FieldKind.Reference name) part Value.Null none spells = refl
no_bytes (FieldKind.Reference name) part (Value.Ref ordinal) none spells = refl
no_bytes (FieldKind.Reference name) part _ none spells = absurd spells
no_bytes FieldKind.Int part Value.Null none spells = refl
no_bytes FieldKind.Int part (Value.Int number) none spells = refl
no_bytes FieldKind.Int part _ none spells = absurd spells
no_bytes FieldKind.Long part Value.Null none spells = refl
no_bytes FieldKind.Long part (Value.Long number) none spells = refl
no_bytes FieldKind.Long part _ none spells = absurd spells
no_bytes FieldKind.Boolean part Value.Null none spells = refl
no_bytes FieldKind.Boolean part (Value.Bool flag) none spells = refl
no_bytes FieldKind.Boolean part _ none spells = absurd spells
no_bytes FieldKind.Text part value none spells = absurd (none tt)
no_bytes FieldKind.Bytes part value none spells = absurd (none tt)

text_null : (part : FieldPart) (value : Value) → GivesRun part Part.Null → SpellsValue FieldKind.Text part value → 0 ≡ value_bytes value
text_null part Value.Null run spells = refl
text_null part (Value.Text units) run spells = absurd (spells.1 run.1)
text_null part _ run spells = absurd spells

bytes_null : (part : FieldPart) (value : Value) → GivesRun part Part.Null → SpellsValue FieldKind.Bytes part value → 0 ≡ value_bytes value
bytes_null part Value.Null run spells = refl
bytes_null part (Value.Bytes bytes) run spells = absurd (spells.1 run.1)
bytes_null part _ run spells = absurd spells

text_given : (part : FieldPart) (given : Part) (value : Value) → GivesRun part given → SpellsValue FieldKind.Text part value → run_bytes given ≡ value_bytes value
text_given part Part.Null value run spells = text_null part value run spells
text_given part (Part.Run start end) value run spells = text_length part start end value run spells
text_given part _ value run spells = absurd run

bytes_given : (part : FieldPart) (given : Part) (value : Value) → GivesRun part given → SpellsValue FieldKind.Bytes part value → run_bytes given ≡ value_bytes value
bytes_given part Part.Null value run spells = bytes_null part value run spells
bytes_given part (Part.Run start end) value run spells = bytes_length part start end value run spells
bytes_given part _ value run spells = absurd run

-- The bytes of what a part of such a field gives are those of its value.
pub given_long : (kind : FieldKind) (part : FieldPart) (given : Part) (value : Value) → HasBytes kind → GivesPart kind part given → SpellsValue kind part value → run_bytes given ≡ value_bytes value
given_long FieldKind.Text part given value has told spells = text_given part given value told spells
given_long FieldKind.Bytes part given value has told spells = bytes_given part given value told spells
given_long (FieldKind.Reference name) part given value has told spells = absurd has
given_long FieldKind.Int part given value has told spells = absurd has
given_long FieldKind.Long part given value has told spells = absurd has
given_long FieldKind.Boolean part given value has told spells = absurd has

-- A part that gives a value does not fail.
pub given_or_failed : (kind : FieldKind) (part : FieldPart) (reason : Reason) (value : Value) → FailsValue kind part reason → SpellsValue kind part value → ⊥
given_or_failed kind part reason value fails spells =
    let field : Field = record { name = []; kind = kind } in
    spelled_or_failed (field ∷ []) (part ∷ []) (value ∷ []) reason (spells, tt) (inl fails)

-- Each number is the zigzag number of the one that it stands for.
zigzag_forth : (number : ℕ) → zigzag (unzigzag number) ≡ number
zigzag_forth number = (elim (number % 2 == 0) as (λ b. (number % 2 == 0) ≡ b → zigzag (cond b (pos (number / 2)) (negsuc (number / 2))) ≡ number) [ true ↦ λ even. grind (arith, nat_tests) | false ↦ λ odd. grind (arith, nat_tests) ]) refl

signed_fits : (width element : ℕ) → element < 2 ^ width → (element ≡ 2 ^ width - 1 → ⊥) → zigzag (unzigzag element) < 2 ^ width - 1
signed_fits width element low apart = omega (arith, zigzag_forth element, low)

-- A value that a part gives fits its width, but for its end.
pub value_fits : (kind : FieldKind) (part : FieldPart) (end : ℕ) (value : Value) → IsKindWidth kind part.width → part.element < 2 ^ part.width → SpellsValue kind part value → EndFits kind part.width end → FitsWidth kind part.width end value
value_fits (FieldKind.Reference name) part end Value.Null wide low spells fits = tt
value_fits (FieldKind.Reference name) part end (Value.Ref ordinal) wide low spells fits = omega (arith, low, spells.0, spells.2)
value_fits (FieldKind.Reference name) part end _ wide low spells fits = absurd spells
value_fits FieldKind.Int part end Value.Null wide low spells fits = tt
value_fits FieldKind.Int part end (Value.Int number) wide low spells fits = subst (λ n. zigzag n < 2 ^ part.width - 1) (sym spells.2) (signed_fits part.width part.element low spells.0)
value_fits FieldKind.Int part end _ wide low spells fits = absurd spells
value_fits FieldKind.Long part end Value.Null wide low spells fits = tt
value_fits FieldKind.Long part end (Value.Long number) wide low spells fits = subst (λ n. zigzag n < 2 ^ part.width - 1) (sym spells.1) (signed_fits part.width part.element low spells.0)
value_fits FieldKind.Long part end _ wide low spells fits = absurd spells
value_fits FieldKind.Boolean part end Value.Null wide low spells fits = wide
value_fits FieldKind.Boolean part end (Value.Bool flag) wide low spells fits = wide
value_fits FieldKind.Boolean part end _ wide low spells fits = absurd spells
value_fits FieldKind.Text part end value wide low spells fits = fits
value_fits FieldKind.Bytes part end value wide low spells fits = fits

pub end_fits : (kind : FieldKind) (width end : ℕ) (value : Value) → FitsWidth kind width end value → EndFits kind width end
end_fits FieldKind.Text width end value fits = fits
end_fits FieldKind.Bytes width end value fits = fits
end_fits (FieldKind.Reference name) width end value fits = tt
end_fits FieldKind.Int width end value fits = tt
end_fits FieldKind.Long width end value fits = tt
end_fits FieldKind.Boolean width end value fits = tt
