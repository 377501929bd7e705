-- A text of plain units is in JSON the units between quotes.
use Rattle.std.proofs.Common.{◌≡◌, inl, ℕ, zero, suc, ◌+◌, ◌<◌, List, [], ◌∷◌, ◌++◌, length, take, get_or, All, refl, sym, ap, ◌∙◌, subst, arith}
use Rattle.std.proofs.lemmas.List.{take_more}
use Rattle.std.proofs.lemmas.List.Elements.{All-append, All-cons, All-nil}
use Rattle.std.specs.List.{flat_map}
use Rattle.std.specs.Char.Escape.{encode_utf16}
use Rattle.std.specs.Str.{IsAscii}
use Rattle.std.proofs.str.Utf16.{one_unit}
use Rattle.std.proofs.lemmas.Str.{IsUtf8-from_ascii, encodes-IsAscii, chars_from_encodes}
use Rattle.json.specs.Print.{escape}
use Rattle.json.proofs.Printed.Strings.{escape_byte_plain}
use Rattle.hol_varint.specs.TextUnits.{IsTextOf}
use Rattle.serde_json.specs.Data.{Data, string}
use Rattle.serde_json.specs.Written.{compact_text}
use Rattle.json_rows.specs.PlainText.{IsPlainUnit}
use Rattle.json_rows.specs.StoredRow.{IsTextData}
use Rattle.json_rows.proofs.Once.{text_prints_once}

pub first_plain : (unit : ℕ) (units : List ℕ) → All IsPlainUnit (unit ∷ units) → IsPlainUnit unit
first_plain unit units all = all 0 0 (omega arith)

pub rest_plain : (unit : ℕ) (units : List ℕ) → All IsPlainUnit (unit ∷ units) → All IsPlainUnit units
rest_plain unit units all = λ k d fits. all (suc k) d (omega arith)

plain_ascii : (units : List ℕ) → All IsPlainUnit units → IsAscii units
plain_ascii [] all i = omega arith
plain_ascii (unit ∷ units) all zero = (let plain = first_plain unit units all in omega (arith, plain.1))
plain_ascii (unit ∷ units) all (suc i) = plain_ascii units (rest_plain unit units all) i

plain_units : (units : List ℕ) → All IsPlainUnit units → flat_map encode_utf16 units ≡ units
plain_units [] all = refl
plain_units (unit ∷ units) all =
    let plain = first_plain unit units all in
    ap (λ (xs : List ℕ). xs ++ flat_map encode_utf16 units) (one_unit unit (omega (arith, plain.1))) ∙ ap (λ (xs : List ℕ). unit ∷ xs) (plain_units units (rest_plain unit units all))

plain_escape : (units : List ℕ) → All IsPlainUnit units → escape units ≡ units
plain_escape [] all = refl
plain_escape (unit ∷ units) all =
    let plain = first_plain unit units all in
    ap (λ (xs : List ℕ). xs ++ escape units) (escape_byte_plain unit plain.2 plain.3 plain.0) ∙ ap (λ (xs : List ℕ). unit ∷ xs) (plain_escape units (rest_plain unit units all))

plain_text : (units : List ℕ) → All IsPlainUnit units → IsTextOf units units
plain_text units all =
    let ascii = plain_ascii units all in record {
      utf8 = IsUtf8-from_ascii units ascii;
      same = ap (λ (cs : List ℕ). flat_map encode_utf16 cs) (sym (chars_from_encodes units units (IsUtf8-from_ascii units ascii) (encodes-IsAscii units ascii))) ∙ plain_units units all;
    }

pub plain_prints : (units : List ℕ) (printed : Data) → All IsPlainUnit units → IsTextData units printed → compact_text printed ≡ 34 ∷ (units ++ 34 ∷ [])
plain_prints units printed all prints =
    ap compact_text (text_prints_once units printed (string units) prints (inl (units, plain_text units all, refl))) ∙ ap (λ t. 34 ∷ (t ++ 34 ∷ [])) (plain_escape units all)

-- one more unit is plain
pub plain_more : (units : List ℕ) (place d : ℕ) → place < length units → IsPlainUnit (get_or units place d) → All IsPlainUnit (take place units) → All IsPlainUnit (take (place + 1) units)
plain_more units place d fits plain all =
    subst (All IsPlainUnit) (sym (take_more units place d fits))
    (All-append IsPlainUnit (take place units) (get_or units place d ∷ []) all (All-cons IsPlainUnit (get_or units place d) [] plain (All-nil IsPlainUnit)))
