-- A value is read back from what it prints as.
use Rattle.std.proofs.Common.{◌≡◌, ℕ, ◌<◌, ◌^◌, ℤ, pos, negsuc, ◌∙◌, refl, ap, List, [], ◌∷◌, map, true, Some, Ok, inl, inr, arith}
use Rattle.std.specs.Prelude.{All, FitsSigned, nat_lt}
use mir.Syntax.{w32, w64}
use Rattle.std.proofs.lemmas.Bool.{cond-true, lt-ltb}
use Rattle.std.proofs.lemmas.List.Elements.{All-head, All-tail}
use Rattle.hex.proofs.HexLemmas.{decode_of-encode_lower}
use Rattle.serde_json.specs.Data.{Data, number, unsigned}
use Rattle.serde_json.specs.Find.{as_i64, of_integer}
use Rattle.serde_json.specs.View.{items_of}
use Rattle.schema_model.specs.declared.schema.FieldKind.{FieldKind}
use Rattle.row_model.specs.declared.row.Value.{Value}
use Rattle.record_trees.specs.FitsTree.{FitsLeaf}
use Rattle.json_values.specs.ReadValue.{before, decoded, has_bits, made_of, read_each, read_signed, read_unit, read_value}
use Rattle.json_rows.specs.StoredRow.{IsTextData, IsValueData}
use Rattle.record_json.specs.InRange.{IsLeafInRange}

-- ---- numbers

as_itself : (n : ℤ) → FitsSigned w64 n → as_i64 (of_integer n) ≡ Some n
as_itself (pos n) fits = cond-true (nat_lt n (2 ^ 63)) (Some (pos n)) _ (lt-ltb n (2 ^ 63) (omega (arith, fits)))
as_itself (negsuc n) fits = refl

wider : (n : ℤ) → FitsSigned w32 n → FitsSigned w64 n
wider (pos n) fits = omega (arith, fits)
wider (negsuc n) fits = omega (arith, fits)

bits_32 : (n : ℤ) → FitsSigned w32 n → has_bits 32 n ≡ true
bits_32 (pos n) fits = lt-ltb n (2 ^ 31) (omega (arith, fits))
bits_32 (negsuc n) fits = lt-ltb n (2 ^ 31) (omega (arith, fits))

bits_64 : (n : ℤ) → FitsSigned w64 n → has_bits 64 n ≡ true
bits_64 (pos n) fits = lt-ltb n (2 ^ 63) (omega (arith, fits))
bits_64 (negsuc n) fits = lt-ltb n (2 ^ 63) (omega (arith, fits))

signed_back : (bits : ℕ) (n : ℤ) → as_i64 (of_integer n) ≡ Some n → has_bits bits n ≡ true → read_signed bits (as_i64 (of_integer n)) ≡ Ok n
signed_back bits n itself has = ap (read_signed bits) itself ∙ cond-true (has_bits bits n) (Ok n) _ has

-- ---- units that are no text

unit_back : (unit : ℕ) → unit < 2 ^ 16 → read_unit (number (unsigned unit)) ≡ Ok unit
unit_back unit small = cond-true (nat_lt unit (2 ^ 16)) (Ok unit) _ (lt-ltb unit (2 ^ 16) small)

units_back : (units : List ℕ) → All (λ unit. unit < 2 ^ 16) units → read_each read_unit (items_of (map (λ n. number (unsigned n)) units)) ≡ Ok units
units_back [] small = refl
units_back (unit ∷ units) small =
    (λ i. before (unit_back unit (All-head (λ u. u < 2 ^ 16) unit units small) i) (units_back units (All-tail (λ u. u < 2 ^ 16) unit units small) i))

text_back : (units : List ℕ) (printed : Data) → All (λ unit. unit < 2 ^ 16) units → IsTextData units printed → read_value FieldKind.Text printed ≡ Ok (Value.Text units)
text_back units printed small (inl (text, stands, is)) = ap (read_value FieldKind.Text) is ∙ ap (λ us. Ok (Value.Text us)) stands.same
text_back units printed small (inr (bad, is)) = ap (read_value FieldKind.Text) is ∙ ap (made_of Value.Text) (units_back units small)

-- ---- values

no_row : (kind : FieldKind) (ordinal : ℕ) → FitsLeaf kind (Value.Ref ordinal) → ⊥
no_row (FieldKind.Reference name) ordinal fits = fits
no_row FieldKind.Int ordinal fits = fits
no_row FieldKind.Long ordinal fits = fits
no_row FieldKind.Boolean ordinal fits = fits
no_row FieldKind.Text ordinal fits = fits
no_row FieldKind.Bytes ordinal fits = fits

pub value_back : (kind : FieldKind) (value : Value) (printed : Data) → FitsLeaf kind value → IsLeafInRange value → IsValueData value printed → read_value kind printed ≡ Ok value
value_back kind Value.Null printed fits range is = ap (read_value kind) is
value_back kind (Value.Ref ordinal) printed fits range is = absurd (no_row kind ordinal fits)
value_back FieldKind.Int (Value.Int n) printed fits range is = ap (read_value FieldKind.Int) is ∙ ap (made_of Value.Int) (signed_back 32 n (as_itself n (wider n range)) (bits_32 n range))
value_back FieldKind.Long (Value.Long n) printed fits range is = ap (read_value FieldKind.Long) is ∙ ap (made_of Value.Long) (signed_back 64 n (as_itself n range) (bits_64 n range))
value_back FieldKind.Boolean (Value.Bool flag) printed fits range is = ap (read_value FieldKind.Boolean) is
value_back FieldKind.Text (Value.Text units) printed fits range is = text_back units printed range is
value_back FieldKind.Bytes (Value.Bytes bytes) printed fits range is = ap (read_value FieldKind.Bytes) is ∙ ap (λ r. made_of Value.Bytes (decoded r)) (decode_of-encode_lower bytes range)
value_back kind value printed fits range is = absurd fits
