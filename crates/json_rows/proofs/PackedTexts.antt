-- A text that stands packed in bytes that are plain units: these are its units.
use Rattle.std.proofs.Common.{◌≡◌, ℕ, List, [], ◌∷◌, ◌++◌, All, Option, Some, refl, sym, ap, ◌∙◌, subst, arith}
use Rattle.hol_varint.specs.TextUnits.{AreUnitsIn, units_bytes}
use Rattle.hol_varint.proofs.VarWriting.{one_group}
use Rattle.serde_json.specs.Data.{Data}
use Rattle.serde_json.specs.Written.{compact_text}
use Rattle.row_model.specs.declared.row.Row.{Row}
use Rattle.row_model.specs.declared.row.Value.{Value}
use Rattle.row_model.specs.Key.{value_in}
use Rattle.object_codec.specs.declared.bytes.PackedBytes.{PackedBytes}
use Rattle.object_codec.specs.declared.value_ref.ValueRef.{ValueRef}
use Rattle.object_codec.specs.Bytes.{bytes_of}
use Rattle.object_codec.specs.Columns.{Shows}
use Rattle.column_rows.proofs.FieldValues.{same_units}
use Rattle.json_rows.specs.PlainText.{IsPlainUnit}
use Rattle.json_rows.specs.RowLine.{PutsAll}
use Rattle.json_rows.specs.StoredRow.{IsTextData, IsValueData}
use Rattle.json_rows.proofs.Behind.{behind_both}
use Rattle.json_rows.proofs.PlainTexts.{first_plain, rest_plain, plain_prints}

plain_spelled : (units : List ℕ) → All IsPlainUnit units → units_bytes units ≡ units
plain_spelled [] all = refl
plain_spelled (unit ∷ units) all =
    let plain = first_plain unit units all in
    ap (λ (xs : List ℕ). xs ++ units_bytes units) (one_group unit (omega (arith, plain.1))) ∙ ap (λ (xs : List ℕ). unit ∷ xs) (plain_spelled units (rest_plain unit units all))

plain_units_in : (units : List ℕ) → All IsPlainUnit units → AreUnitsIn units units
plain_units_in units all = ((λ k d fits. let plain = all k d fits in omega (arith, plain.1)), sym (plain_spelled units all))

-- the text that plain bytes spell prints as these bytes, in quotes
packed_prints : (bytes units : List ℕ) (printed : Data) → All IsPlainUnit bytes → AreUnitsIn bytes units → IsTextData units printed → compact_text printed ≡ 34 ∷ (bytes ++ 34 ∷ [])
packed_prints bytes units printed all are prints =
    plain_prints bytes printed all (subst (λ text. IsTextData text printed) (same_units bytes bytes units (plain_units_in bytes all) are) prints)

text_prints : (bytes : PackedBytes) (value : Value) (printed : Data) → All IsPlainUnit (bytes_of bytes) → Shows (ValueRef.Text bytes) value → IsValueData value printed → compact_text printed ≡ 34 ∷ (bytes_of bytes ++ 34 ∷ [])
text_prints bytes (Value.Text units) printed all shows prints = packed_prints (bytes_of bytes) units printed all shows prints
text_prints bytes Value.Null printed all shows prints = absurd shows
text_prints bytes (Value.Int number) printed all shows prints = absurd shows
text_prints bytes (Value.Long number) printed all shows prints = absurd shows
text_prints bytes (Value.Bool flag) printed all shows prints = absurd shows
text_prints bytes (Value.Bytes octets) printed all shows prints = absurd shows
text_prints bytes (Value.Ref ordinal) printed all shows prints = absurd shows

-- the text that a field shows is put, and so that of whatever value the field has
pub text_put : (found : Option Row) (field : ℕ) (bytes : PackedBytes) (has : Value) (old new : List ℕ) → All IsPlainUnit (bytes_of bytes) → Shows (ValueRef.Text bytes) has → value_in found field ≡ Some has
    → new ≡ old ++ 34 ∷ (bytes_of bytes ++ 34 ∷ []) → (value : Value) → value_in found field ≡ Some value → PutsAll (IsValueData value) old new
text_put found field bytes has old new all shows is put value also printed prints =
    let both : Some has ≡ Some value = sym is ∙ also in
    let same : has ≡ value = cc in
    put ∙ ap (λ t. old ++ t) (sym (text_prints bytes value printed all (subst (λ (v : Value). Shows (ValueRef.Text bytes) v) same shows) prints))

-- bytes are put between two quotes
pub quoted_put : (old opened filled new bytes : List ℕ) → opened ≡ old ++ 34 ∷ [] → filled ≡ opened ++ bytes → new ≡ filled ++ 34 ∷ [] → new ≡ old ++ 34 ∷ (bytes ++ 34 ∷ [])
quoted_put old opened filled new bytes first between last = behind_both old filled new (34 ∷ bytes) (34 ∷ []) (behind_both old opened filled (34 ∷ []) bytes first between) last
