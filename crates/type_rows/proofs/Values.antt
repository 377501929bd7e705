-- The value that is computed of a part is the one that the part gives.
use Rattle.std.proofs.Common.{◌≡◌, ℕ, ◌+◌, ◌-◌, ◌*◌, ◌^◌, List, [], ◌∷◌, ◌++◌, true, false, cond, refl, sym, ap, ◌∙◌, arith, eqb, lt-ltb, le-ltb, le-leb, eq-eqb, ne_eqb}
use Rattle.std.proofs.lemmas.Bool.{lt-leb}
use Rattle.hol_varint.specs.Varint.{SpellsOn, varint_bytes}
use Rattle.hol_varint.specs.Zigzag.{unzigzag}
use Rattle.hol_varint.specs.TextUnits.{units_bytes}
use Rattle.hol_varint.proofs.VarWriting.{varint_is}
use Rattle.schema_model.specs.declared.schema.FieldKind.{FieldKind}
use Rattle.row_model.specs.declared.row.Value.{Value}
use Rattle.object_codec.specs.Part.{FieldPart, IsOnes, HasNullBit, SpellsInt, SpellsLong, SpellsReference, SpellsBoolean, SpellsText, SpellsBytes, SpellsValue, span_of}
use Rattle.type_rows.specs.Value.{units_behind, units_in, unless_ones, unless_null_bit, value_in}

-- Bytes that spell a number are its unit.
unit_first : (high : ℕ) (bytes : List ℕ) (number : ℕ) (rest : List ℕ) → SpellsOn high bytes number → units_behind high (bytes ++ rest) ≡ number ∷ units_behind 0 rest
unfolding units_behind
unit_first high [] number rest h = absurd h
unit_first high (b ∷ []) number rest h =
    ap (λ t. cond t ((high * 128 + b) ∷ []) [] ++ units_behind (cond t 0 (high * 128 + (b - 128))) rest) (lt-ltb b 128 h.0) ∙ ap (λ n. n ∷ units_behind 0 rest) (sym h.1)
unit_first high (b ∷ c ∷ bs) number rest h =
    ap (λ t. cond t ((high * 128 + b) ∷ []) [] ++ units_behind (cond t 0 (high * 128 + (b - 128))) (c ∷ (bs ++ rest))) (le-ltb b 128 h.0)
    ∙ unit_first (high * 128 + (b - 128)) (c ∷ bs) number rest h.2

-- The units of the bytes of some units are these.
pub units_back : (units : List ℕ) → units_in (units_bytes units) ≡ units
unfolding units_behind
units_back [] = refl
units_back (unit ∷ units) = unit_first 0 (varint_bytes unit) unit (units_bytes units) (varint_is unit).groups ∙ ap (λ us. unit ∷ us) (units_back units)

ones_null : (part : FieldPart) (value : Value) → IsOnes part.width part.element → unless_ones part value ≡ Value.Null
ones_null part value h = ap (λ t. cond t Value.Null value) (eq-eqb part.element (2 ^ part.width - 1) h)

ones_other : (part : FieldPart) (value : Value) → (IsOnes part.width part.element → ⊥) → unless_ones part value ≡ value
ones_other part value h = ap (λ t. cond t Value.Null value) (ne_eqb part.element (2 ^ part.width - 1) h)

bit_null : (part : FieldPart) (value : Value) → HasNullBit part → unless_null_bit part value ≡ Value.Null
bit_null part value h = ap (λ t. cond t Value.Null value) (le-leb (2 ^ (part.width - 1)) part.element h)

bit_other : (part : FieldPart) (value : Value) → (HasNullBit part → ⊥) → unless_null_bit part value ≡ value
bit_other part value h = ap (λ t. cond t Value.Null value) (lt-leb (2 ^ (part.width - 1)) part.element (omega (arith, h)))

int_in : (part : FieldPart) (value : Value) → SpellsInt part.width part.element value → value_in FieldKind.Int part ≡ value
int_in part Value.Null h = ones_null part (Value.Int (unzigzag part.element)) h
int_in part (Value.Int number) h = ones_other part (Value.Int (unzigzag part.element)) h.0 ∙ ap Value.Int (sym h.2)
int_in part _ h = absurd h

long_in : (part : FieldPart) (value : Value) → SpellsLong part.width part.element value → value_in FieldKind.Long part ≡ value
long_in part Value.Null h = ones_null part (Value.Long (unzigzag part.element)) h
long_in part (Value.Long number) h = ones_other part (Value.Long (unzigzag part.element)) h.0 ∙ ap Value.Long (sym h.1)
long_in part _ h = absurd h

reference_in : (name : List ℕ) (part : FieldPart) (value : Value) → SpellsReference part.width part.element value → value_in (FieldKind.Reference name) part ≡ value
reference_in name part Value.Null h = ones_null part (Value.Ref part.element) h
reference_in name part (Value.Ref ordinal) h = ones_other part (Value.Ref part.element) h.0 ∙ ap Value.Ref (sym h.2)
reference_in name part _ h = absurd h

boolean_in : (part : FieldPart) (value : Value) → SpellsBoolean part.element value → value_in FieldKind.Boolean part ≡ value
boolean_in part Value.Null h = ap (λ e. cond (eqb e 3) Value.Null (Value.Bool (eqb e 1))) h
boolean_in part (Value.Bool true) h = ap (λ e. cond (eqb e 3) Value.Null (Value.Bool (eqb e 1))) h
boolean_in part (Value.Bool false) h = ap (λ e. cond (eqb e 3) Value.Null (Value.Bool (eqb e 1))) h
boolean_in part _ h = absurd h

text_in : (part : FieldPart) (value : Value) → SpellsText part value → value_in FieldKind.Text part ≡ value
text_in part Value.Null h = bit_null part (Value.Text (units_in (span_of part))) h.1
text_in part (Value.Text units) h = bit_other part (Value.Text (units_in (span_of part))) h.1 ∙ ap (λ bytes. Value.Text (units_in bytes)) h.2.1 ∙ ap Value.Text (units_back units)
text_in part _ h = absurd h

bytes_in : (part : FieldPart) (value : Value) → SpellsBytes part value → value_in FieldKind.Bytes part ≡ value
bytes_in part Value.Null h = bit_null part (Value.Bytes (span_of part)) h.1
bytes_in part (Value.Bytes bytes) h = bit_other part (Value.Bytes (span_of part)) h.1 ∙ ap Value.Bytes (sym h.2)
bytes_in part _ h = absurd h

pub value_given : (kind : FieldKind) (part : FieldPart) (value : Value) → SpellsValue kind part value → value_in kind part ≡ value
value_given (FieldKind.Reference name) part value h = reference_in name part value h
value_given FieldKind.Int part value h = int_in part value h
value_given FieldKind.Long part value h = long_in part value h
value_given FieldKind.Boolean part value h = boolean_in part value h
value_given FieldKind.Text part value h = text_in part value h
value_given FieldKind.Bytes part value h = bytes_in part value h
