-- Lemmas on what a part gives: at most one value, and not both a value and a reason.
use Rattle.std.proofs.Common.{◌≡◌, ℕ, List, [], ◌∷◌, true, false, arith, refl, ap, sym, ◌∙◌, inl, inr}
use Rattle.hol_varint.specs.TextUnits.{AreUnitsIn}
use Rattle.hol_varint.specs.Varint.{varint_bytes}
use Rattle.hol_varint.proofs.Runs.{codes_once}
use Rattle.hol_varint.proofs.VarWriting.{varint_code}
use Rattle.schema_model.specs.declared.schema.FieldKind.{FieldKind}
use Rattle.schema_model.specs.declared.schema.Field.{Field}
use Rattle.row_model.specs.declared.row.Value.{Value}
use Rattle.schema_model.specs.declared.reason.Reason.{Reason}
use Rattle.object_codec.specs.Part.{FieldPart, IsSpan, SpellsInt, SpellsLong, SpellsReference, SpellsBoolean, SpellsText, SpellsBytes, SpellsValue, HasBadPointers, HasBadText, HasBadValue, FailsValue}
use Rattle.object_codec.specs.ObjectPlace.{SpellsFields, FirstFails}

units_once : (bytes a b : List ℕ) → AreUnitsIn bytes a → AreUnitsIn bytes b → a ≡ b
units_once bytes a b h k = codes_once varint_bytes varint_code a b h.0 k.0 (sym h.1 ∙ k.1)

int_once : (width element : ℕ) (a b : Value) → SpellsInt width element a → SpellsInt width element b → a ≡ b
int_once width element Value.Null Value.Null h k = refl
int_once width element Value.Null (Value.Int m) h k = absurd (k.0 h)
int_once width element (Value.Int n) Value.Null h k = absurd (h.0 k)
int_once width element (Value.Int n) (Value.Int m) h k = ap Value.Int (h.2 ∙ sym k.2)
int_once width element Value.Null _ h k = absurd k
int_once width element (Value.Int n) _ h k = absurd k
int_once width element _ _ h k = absurd h

long_once : (width element : ℕ) (a b : Value) → SpellsLong width element a → SpellsLong width element b → a ≡ b
long_once width element Value.Null Value.Null h k = refl
long_once width element Value.Null (Value.Long m) h k = absurd (k.0 h)
long_once width element (Value.Long n) Value.Null h k = absurd (h.0 k)
long_once width element (Value.Long n) (Value.Long m) h k = ap Value.Long (h.1 ∙ sym k.1)
long_once width element Value.Null _ h k = absurd k
long_once width element (Value.Long n) _ h k = absurd k
long_once width element _ _ h k = absurd h

reference_once : (width element : ℕ) (a b : Value) → SpellsReference width element a → SpellsReference width element b → a ≡ b
reference_once width element Value.Null Value.Null h k = refl
reference_once width element Value.Null (Value.Ref m) h k = absurd (k.0 h)
reference_once width element (Value.Ref n) Value.Null h k = absurd (h.0 k)
reference_once width element (Value.Ref n) (Value.Ref m) h k = ap Value.Ref (h.2 ∙ sym k.2)
reference_once width element Value.Null _ h k = absurd k
reference_once width element (Value.Ref n) _ h k = absurd k
reference_once width element _ _ h k = absurd h

boolean_once : (element : ℕ) (a b : Value) → SpellsBoolean element a → SpellsBoolean element b → a ≡ b
boolean_once element Value.Null Value.Null h k = refl
boolean_once element Value.Null (Value.Bool true) h k = absurd (omega (arith, h, k))
boolean_once element Value.Null (Value.Bool false) h k = absurd (omega (arith, h, k))
boolean_once element (Value.Bool true) Value.Null h k = absurd (omega (arith, h, k))
boolean_once element (Value.Bool false) Value.Null h k = absurd (omega (arith, h, k))
boolean_once element (Value.Bool true) (Value.Bool true) h k = refl
boolean_once element (Value.Bool true) (Value.Bool false) h k = absurd (omega (arith, h, k))
boolean_once element (Value.Bool false) (Value.Bool true) h k = absurd (omega (arith, h, k))
boolean_once element (Value.Bool false) (Value.Bool false) h k = refl
boolean_once element Value.Null _ h k = absurd k
boolean_once element (Value.Bool n) _ h k = absurd k
boolean_once element _ _ h k = absurd h

text_once : (part : FieldPart) (a b : Value) → SpellsText part a → SpellsText part b → a ≡ b
text_once part Value.Null Value.Null h k = refl
text_once part Value.Null (Value.Text m) h k = absurd (k.1 h.1)
text_once part (Value.Text n) Value.Null h k = absurd (h.1 k.1)
text_once part (Value.Text n) (Value.Text m) h k = ap Value.Text (units_once _ n m h.2 k.2)
text_once part Value.Null _ h k = absurd k
text_once part (Value.Text n) _ h k = absurd k
text_once part _ _ h k = absurd h

bytes_once : (part : FieldPart) (a b : Value) → SpellsBytes part a → SpellsBytes part b → a ≡ b
bytes_once part Value.Null Value.Null h k = refl
bytes_once part Value.Null (Value.Bytes m) h k = absurd (k.1 h.1)
bytes_once part (Value.Bytes n) Value.Null h k = absurd (h.1 k.1)
bytes_once part (Value.Bytes n) (Value.Bytes m) h k = ap Value.Bytes (h.2 ∙ sym k.2)
bytes_once part Value.Null _ h k = absurd k
bytes_once part (Value.Bytes n) _ h k = absurd k
bytes_once part _ _ h k = absurd h

-- a part gives at most one value
value_once : (kind : FieldKind) (part : FieldPart) (a b : Value) → SpellsValue kind part a → SpellsValue kind part b → a ≡ b
value_once (FieldKind.Reference name) part a b h k = reference_once part.width part.element a b h k
value_once FieldKind.Int part a b h k = int_once part.width part.element a b h k
value_once FieldKind.Long part a b h k = long_once part.width part.element a b h k
value_once FieldKind.Boolean part a b h k = boolean_once part.element a b h k
value_once FieldKind.Text part a b h k = text_once part a b h k
value_once FieldKind.Bytes part a b h k = bytes_once part a b h k

text_span : (part : FieldPart) (value : Value) → SpellsText part value → IsSpan part
text_span part Value.Null h = h.0
text_span part (Value.Text units) h = h.0
text_span part _ h = absurd h

bytes_span : (part : FieldPart) (value : Value) → SpellsBytes part value → IsSpan part
bytes_span part Value.Null h = h.0
bytes_span part (Value.Bytes bytes) h = h.0
bytes_span part _ h = absurd h

good_pointers : (kind : FieldKind) (part : FieldPart) (value : Value) → SpellsValue kind part value → HasBadPointers kind part → ⊥
good_pointers FieldKind.Text part value h bad = bad (text_span part value h)
good_pointers FieldKind.Bytes part value h bad = bad (bytes_span part value h)
good_pointers _ part value h bad = bad

text_good : (part : FieldPart) (value : Value) → SpellsText part value → HasBadText FieldKind.Text part → ⊥
text_good part Value.Null h bad = bad.1 h.1
text_good part (Value.Text units) h bad = bad.2 units h.2
text_good part _ h bad = absurd h

good_text : (kind : FieldKind) (part : FieldPart) (value : Value) → SpellsValue kind part value → HasBadText kind part → ⊥
good_text FieldKind.Text part value h bad = text_good part value h bad
good_text _ part value h bad = bad

good_int : (part : FieldPart) (value : Value) → SpellsInt part.width part.element value → HasBadValue FieldKind.Int part → ⊥
good_int part Value.Null h bad = bad.0 h
good_int part (Value.Int number) h bad = omega (arith, h.1, bad.1)
good_int part _ h bad = absurd h

good_reference : (part : FieldPart) (value : Value) (name : List ℕ) → SpellsReference part.width part.element value → HasBadValue (FieldKind.Reference name) part → ⊥
good_reference part Value.Null name h bad = bad.0 h
good_reference part (Value.Ref ordinal) name h bad = omega (arith, h.1, bad.1)
good_reference part _ name h bad = absurd h

good_boolean : (part : FieldPart) (value : Value) → SpellsBoolean part.element value → HasBadValue FieldKind.Boolean part → ⊥
good_boolean part Value.Null h bad = omega (arith, h, bad)
good_boolean part (Value.Bool true) h bad = omega (arith, h, bad)
good_boolean part (Value.Bool false) h bad = omega (arith, h, bad)
good_boolean part _ h bad = absurd h

good_value : (kind : FieldKind) (part : FieldPart) (value : Value) → SpellsValue kind part value → HasBadValue kind part → ⊥
good_value (FieldKind.Reference name) part value h bad = good_reference part value name h bad
good_value FieldKind.Int part value h bad = good_int part value h bad
good_value FieldKind.Boolean part value h bad = good_boolean part value h bad
good_value _ part value h bad = bad

-- a part does not give both a value and a reason
value_or_reason : (kind : FieldKind) (part : FieldPart) (value : Value) (reason : Reason) → SpellsValue kind part value → FailsValue kind part reason → ⊥
value_or_reason kind part value Reason.BadPointers h bad = good_pointers kind part value h bad
value_or_reason kind part value Reason.BadText h bad = good_text kind part value h bad
value_or_reason kind part value Reason.BadValue h bad = good_value kind part value h bad
value_or_reason kind part value _ h bad = bad

text_or_pointers : (kind : FieldKind) (part : FieldPart) → HasBadPointers kind part → HasBadText kind part → ⊥
text_or_pointers FieldKind.Text part h k = h k.0
text_or_pointers _ part h k = k

value_or_pointers : (kind : FieldKind) (part : FieldPart) → HasBadPointers kind part → HasBadValue kind part → ⊥
value_or_pointers FieldKind.Text part h k = k
value_or_pointers FieldKind.Bytes part h k = k
value_or_pointers _ part h k = h

value_or_text : (kind : FieldKind) (part : FieldPart) → HasBadText kind part → HasBadValue kind part → ⊥
value_or_text FieldKind.Text part h k = k
value_or_text _ part h k = h

-- a part gives at most one reason
reason_once : (kind : FieldKind) (part : FieldPart) (a b : Reason) → FailsValue kind part a → FailsValue kind part b → a ≡ b
reason_once kind part Reason.BadPointers Reason.BadPointers h k = refl
reason_once kind part Reason.BadText Reason.BadText h k = refl
reason_once kind part Reason.BadValue Reason.BadValue h k = refl
reason_once kind part Reason.BadPointers Reason.BadText h k = absurd (text_or_pointers kind part h k)
reason_once kind part Reason.BadText Reason.BadPointers h k = absurd (text_or_pointers kind part k h)
reason_once kind part Reason.BadPointers Reason.BadValue h k = absurd (value_or_pointers kind part h k)
reason_once kind part Reason.BadValue Reason.BadPointers h k = absurd (value_or_pointers kind part k h)
reason_once kind part Reason.BadText Reason.BadValue h k = absurd (value_or_text kind part h k)
reason_once kind part Reason.BadValue Reason.BadText h k = absurd (value_or_text kind part k h)
reason_once kind part Reason.BadPointers _ h k = absurd k
reason_once kind part Reason.BadText _ h k = absurd k
reason_once kind part Reason.BadValue _ h k = absurd k
reason_once kind part _ _ h k = absurd h

-- the parts of a record give at most one record
pub spelled_once : (fields : List Field) (parts : List FieldPart) (a b : List Value) → SpellsFields fields parts a → SpellsFields fields parts b → a ≡ b
spelled_once [] [] [] [] h k = refl
spelled_once (field ∷ fields) (part ∷ parts) (x ∷ xs) (y ∷ ys) h k =
    let e : x ≡ y = value_once field.kind part x y h.0 k.0 in
    let f : xs ≡ ys = spelled_once fields parts xs ys h.1 k.1 in
    cc
spelled_once [] [] [] _ h k = absurd k
spelled_once (field ∷ fields) (part ∷ parts) (x ∷ xs) _ h k = absurd k
spelled_once _ _ _ _ h k = absurd h

-- not both a record and a reason
pub spelled_or_failed : (fields : List Field) (parts : List FieldPart) (values : List Value) (reason : Reason) → SpellsFields fields parts values → FirstFails fields parts reason → ⊥
spelled_or_failed (field ∷ fields) (part ∷ parts) (value ∷ values) reason h (inl bad) = value_or_reason field.kind part value reason h.0 bad
spelled_or_failed (field ∷ fields) (part ∷ parts) (value ∷ values) reason h (inr bad) = spelled_or_failed fields parts values reason h.1 bad.1
spelled_or_failed (field ∷ fields) (part ∷ parts) [] reason h k = absurd h
spelled_or_failed _ _ values reason h k = absurd k

-- at most one reason
pub failed_once : (fields : List Field) (parts : List FieldPart) (a b : Reason) → FirstFails fields parts a → FirstFails fields parts b → a ≡ b
failed_once (field ∷ fields) (part ∷ parts) a b (inl h) (inl k) = reason_once field.kind part a b h k
failed_once (field ∷ fields) (part ∷ parts) a b (inl h) (inr k) = absurd (value_or_reason field.kind part k.0.0 a k.0.1 h)
failed_once (field ∷ fields) (part ∷ parts) a b (inr h) (inl k) = absurd (value_or_reason field.kind part h.0.0 b h.0.1 k)
failed_once (field ∷ fields) (part ∷ parts) a b (inr h) (inr k) = failed_once fields parts a b h.1 k.1
failed_once _ _ a b h k = absurd h
