-- Lemmas on bytes below 128, which are the units of a STRING themselves.
use Rattle.std.proofs.Common.{◌≡◌, ℕ, zero, suc, ◌+◌, ◌-◌, ◌^◌, ◌<◌, List, [], ◌∷◌, ◌++◌, length, take, drop, get_or, refl, sym, ap, ◌∙◌, subst, arith}
use Rattle.std.proofs.lemmas.List.{get_or-drop, length-take, length-drop}
use Rattle.std.specs.List.{flat_map}
use Rattle.std.proofs.lemmas.List.Elements.{All-nil, All-cons}
use Rattle.hol_varint.specs.Varint.{varint_bytes}
use Rattle.hol_varint.specs.TextUnits.{AreUnitsIn}
use Rattle.hol_varint.proofs.VarWriting.{one_group}
use Rattle.schema_model.specs.declared.schema.FieldKind.{FieldKind}
use Rattle.row_model.specs.declared.row.Value.{Value}
use Rattle.object_codec.specs.Part.{FieldPart, span_of, end_of, SpellsValue}
use Rattle.object_codec.specs.declared.part.Part.{Part}
use Rattle.object_codec.specs.Parts.{GivesPart, GivesRun}
use Rattle.object_codec.specs.Sound.{ArePlain, IsToldByParts}
use Rattle.object_codec.proofs.Faults.{other_given}

-- plain bytes are their own units
plain_units : (bytes : List ℕ) → ArePlain bytes → AreUnitsIn bytes bytes
plain_units [] plain = (All-nil (λ unit. unit < 2 ^ 16), refl)
plain_units (byte ∷ bytes) plain =
    let rest = plain_units bytes (λ k inside. plain (suc k) (omega arith)) in
    let small : byte < 128 = plain 0 (omega arith) in (
      All-cons (λ unit. unit < 2 ^ 16) byte bytes (omega arith) rest.0,
      ap (λ bs. byte ∷ bs) rest.1 ∙ ap (λ front. front ++ flat_map varint_bytes bytes) (sym (one_group byte small)),
    )

taken_at : (count : ℕ) (bytes : List ℕ) (k : ℕ) → k < length (take count bytes) → get_or (take count bytes) k 0 ≡ get_or bytes k 0
taken_at zero bytes k inside = absurd (omega arith)
taken_at (suc count) [] k inside = refl
taken_at (suc count) (byte ∷ bytes) zero inside = refl
taken_at (suc count) (byte ∷ bytes) (suc k) inside = taken_at count bytes k (omega arith)

-- any run of plain bytes is plain
plain_run : (bytes : List ℕ) (start count : ℕ) → ArePlain bytes → ArePlain (take count (drop start bytes))
plain_run bytes start count plain k inside =
    let same = taken_at count (drop start bytes) k inside ∙ get_or-drop start bytes k 0 in
    subst (λ b. b < 128) (sym same) (plain (start + k) (omega (arith, length-take count (drop start bytes), length-drop start bytes)))

text_plain : (part : FieldPart) (given : Part) → ArePlain part.area → GivesRun part given → (value : Value) × SpellsValue FieldKind.Text part value
text_plain part Part.Null plain told = (Value.Null, told)
text_plain part (Part.Run start end) plain told =
    (Value.Text (span_of part), (told.0, told.1, plain_units (span_of part) (plain_run part.area part.start (end_of part - part.start) plain)))
text_plain part _ plain told = absurd told

-- each part of a field that is told by its parts has a value
pub told_given : (kind : FieldKind) (part : FieldPart) (given : Part) → IsToldByParts kind part.area → GivesPart kind part given → (value : Value) × SpellsValue kind part value
told_given FieldKind.Text part given plain told = text_plain part given plain told
told_given FieldKind.Bytes part given plain told = other_given FieldKind.Bytes part given (λ is start end run. cc) told
told_given FieldKind.Int part given plain told = other_given FieldKind.Int part given (λ is start end run. cc) told
told_given FieldKind.Long part given plain told = other_given FieldKind.Long part given (λ is start end run. cc) told
told_given FieldKind.Boolean part given plain told = other_given FieldKind.Boolean part given (λ is start end run. cc) told
told_given (FieldKind.Reference name) part given plain told = other_given (FieldKind.Reference name) part given (λ is start end run. cc) told
