-- Lemmas on the element and the bytes that are written for a value.
use Rattle.std.proofs.Common.{◌≡◌, ℕ, ◌+◌, ◌-◌, ◌*◌, ◌%◌, ◌^◌, ◌<◌, ◌≤◌, List, [], ◌∷◌, ◌++◌, length, take, drop, refl, sym, ap, ◌∙◌, subst, arith, rules, append-nil, Bool, true, false, Option, Some, None, suc}
use Rattle.std.specs.Prelude.{ℤ, pos, negsuc, IfSome, unwrap_or, if◌then◌else◌}
use Rattle.std.specs.Option.{option_to_list}
use Rattle.std.proofs.Math.Nat.{pow-suc}
use Rattle.std.proofs.lemmas.Nat.{pow_pos, mod_low}
use Rattle.std.proofs.lemmas.List.{length-append, take_all, drop_at}
use Rattle.hol_varint.specs.TextUnits.{AreUnits, units_bytes}
use Rattle.hol_varint.specs.Zigzag.{zigzag, unzigzag}
use Rattle.row_model.specs.Row.{FitsKind, is_least, stored_value}
use Rattle.schema_model.specs.declared.schema.FieldKind.{FieldKind}
use Rattle.row_model.specs.declared.row.Value.{Value}
use Rattle.object_codec.specs.Encoded.{end_element, element_for, gap_element, IsTaken}
use Rattle.object_codec.specs.ObjectPlace.{IsKindWidth}
use Rattle.object_codec.specs.Packing.{HasBytes, HoldsValue, PacksPart}
use Rattle.object_codec.specs.Part.{FieldPart, IsSpan, HasNullBit, span_of, offset_in, SpellsInt, SpellsLong, SpellsReference, SpellsBoolean, SpellsText, SpellsBytes}
use Rattle.object_codec.specs.Stored.{element_number, stored_number, greatest_number, value_bytes, values_bytes}

-- ---- numbers

zigzag_back : (number : ℤ) → unzigzag (zigzag number) ≡ number
zigzag_back (pos n) = search rules
zigzag_back (negsuc k) = search rules

-- what an element holds that has no bytes
abbrev number_or_null : ℕ → Option ℕ → ℕ
number_or_null width number = unwrap_or number (2 ^ width - 1)

abbrev IsHeld : ℕ → Option ℕ → Type 0
IsHeld width number = IfSome number (λ n. n < 2 ^ width - 1)

number_below : (width : ℕ) (number : Option ℕ) → IsHeld width number → number_or_null width number < 2 ^ width
number_below width None held = omega (arith, pow_pos width)
number_below width (Some n) held = omega (arith, held)

packs_int : (width : ℕ) (value : Value) → FitsKind FieldKind.Int value → HoldsValue width value → IfSome (stored_number value) (λ n. n ≤ greatest_number value)
    → SpellsInt width (number_or_null width (stored_number value)) (stored_value value)
packs_int width Value.Null fits held small = refl
packs_int width (Value.Int number) fits held small = either (is_least 32 number) held small
  where
    either : (b : Bool) → IsHeld width (element_number (if b then Value.Null else Value.Int number)) → IfSome (element_number (if b then Value.Null else Value.Int number)) (λ n. n ≤ 2 ^ 32 - 2)
        → SpellsInt width (number_or_null width (element_number (if b then Value.Null else Value.Int number))) (if b then Value.Null else Value.Int number)
    either true held small = refl
    either false held small = (λ ones. omega (arith, ones, held), small, sym (zigzag_back number))
packs_int width _ fits held small = absurd fits

packs_long : (width : ℕ) (value : Value) → FitsKind FieldKind.Long value → HoldsValue width value → SpellsLong width (number_or_null width (stored_number value)) (stored_value value)
packs_long width Value.Null fits held = refl
packs_long width (Value.Long number) fits held = either (is_least 64 number) held
  where
    either : (b : Bool) → IsHeld width (element_number (if b then Value.Null else Value.Long number))
        → SpellsLong width (number_or_null width (element_number (if b then Value.Null else Value.Long number))) (if b then Value.Null else Value.Long number)
    either true held = refl
    either false held = (λ ones. omega (arith, ones, held), sym (zigzag_back number))
packs_long width _ fits held = absurd fits

packs_reference : (width : ℕ) (name : List ℕ) (value : Value) → FitsKind (FieldKind.Reference name) value → HoldsValue width value → IfSome (stored_number value) (λ n. n ≤ greatest_number value)
    → SpellsReference width (number_or_null width (stored_number value)) (stored_value value)
packs_reference width name Value.Null fits held small = refl
packs_reference width name (Value.Ref ordinal) fits held small = (λ ones. omega (arith, ones, held), small, refl)
packs_reference width name _ fits held small = absurd fits

packs_boolean : (value : Value) → FitsKind FieldKind.Boolean value → SpellsBoolean (number_or_null 2 (stored_number value)) (stored_value value)
packs_boolean Value.Null fits = omega arith
packs_boolean (Value.Bool flag) fits = refl
packs_boolean _ fits = absurd fits

-- ---- offsets

-- the part of a field whose bytes are put behind those before
abbrev put_part : ℕ → ℕ → List ℕ → List ℕ → FieldPart
put_part width element before bytes = record { width = width; element = element; start = length before; area = before ++ bytes }

offset_of_end : (width end : ℕ) → end < 2 ^ (width - 1) → offset_in width end ≡ end
offset_of_end width end below =
    let e : end ≡ 0 * 2 ^ (width - 1) + end = omega arith in
    ap (λ n. n % 2 ^ (width - 1)) e ∙ mod_low 0 (width - 1) end below

offset_of_null : (width end : ℕ) → end < 2 ^ (width - 1) → offset_in width (end + 2 ^ (width - 1)) ≡ end
offset_of_null width end below =
    let e : end + 2 ^ (width - 1) ≡ 1 * 2 ^ (width - 1) + end = omega arith in
    ap (λ n. n % 2 ^ (width - 1)) e ∙ mod_low 1 (width - 1) end below

null_bit_on : (width : ℕ) → 1 ≤ width → 2 ^ width ≡ 2 ^ (width - 1) + 2 ^ (width - 1)
null_bit_on width some =
    let e : width ≡ suc (width - 1) = omega arith in
    ap (λ k. 2 ^ k) e ∙ pow-suc 2 (width - 1) ∙ (let twice : 2 ^ (width - 1) * 2 ≡ 2 ^ (width - 1) + 2 ^ (width - 1) = omega arith in twice)

-- the bytes that are put are the span
some_span : (width element : ℕ) (before bytes : List ℕ) → element ≡ length (before ++ bytes) → length (before ++ bytes) < 2 ^ (width - 1)
    → IsSpan (put_part width element before bytes) × (HasNullBit (put_part width element before bytes) → ⊥) × (span_of (put_part width element before bytes) ≡ bytes)
some_span width element before bytes is below =
    let offset : offset_in width element ≡ length (before ++ bytes) = ap (offset_in width) is ∙ offset_of_end width (length (before ++ bytes)) below in
    let long = length-append before bytes in
    let size : offset_in width element - length before ≡ length bytes = omega arith in (
      record { rises = omega arith; inside = omega arith; empty = λ null. absurd (omega (arith, null)) },
      λ null. omega (arith, null),
      ap (λ n. take n (drop (length before) (before ++ bytes))) size ∙ ap (take (length bytes)) (drop_at before bytes (length before) refl) ∙ take_all (length bytes) bytes (omega arith),
    )

-- a null has none
null_span : (width element : ℕ) (before : List ℕ) → element ≡ length (before ++ []) + 2 ^ (width - 1) → length (before ++ []) < 2 ^ (width - 1)
    → IsSpan (put_part width element before []) × HasNullBit (put_part width element before [])
null_span width element before is below =
    let offset : offset_in width element ≡ length (before ++ []) = ap (offset_in width) is ∙ offset_of_null width (length (before ++ [])) below in
    let long = length-append before [] in
    (record { rises = omega arith; inside = omega arith; empty = λ null. omega arith }, omega arith)

packs_text : (width : ℕ) (before : List ℕ) (value : Value) → FitsKind FieldKind.Text value → length (before ++ value_bytes value) < 2 ^ (width - 1)
    → ((units : List ℕ) → value ≡ Value.Text units → AreUnits units)
    → SpellsText (put_part width (end_element width (length (before ++ value_bytes value)) value) before (value_bytes value)) (stored_value value)
packs_text width before Value.Null fits below are = null_span width _ before refl below
packs_text width before (Value.Text units) fits below are =
    let h = some_span width (length (before ++ units_bytes units)) before (units_bytes units) refl below in
    (h.0, h.1, (are units refl, h.2))
packs_text width before _ fits below are = absurd fits

packs_bytes : (width : ℕ) (before : List ℕ) (value : Value) → FitsKind FieldKind.Bytes value → length (before ++ value_bytes value) < 2 ^ (width - 1)
    → SpellsBytes (put_part width (end_element width (length (before ++ value_bytes value)) value) before (value_bytes value)) (stored_value value)
packs_bytes width before Value.Null fits below = null_span width _ before refl below
packs_bytes width before (Value.Bytes bytes) fits below =
    let h = some_span width (length (before ++ bytes)) before bytes refl below in
    (h.0, h.1, sym h.2)
packs_bytes width before _ fits below = absurd fits

end_offset : (width end : ℕ) (value : Value) → end < 2 ^ (width - 1) → offset_in width (end_element width end value) ≡ end
end_offset width end Value.Null below = offset_of_null width end below
end_offset width end _ below = offset_of_end width end below

end_below : (width end : ℕ) (value : Value) → 1 ≤ width → end < 2 ^ (width - 1) → end_element width end value < 2 ^ width
end_below width end Value.Null some below = omega (arith, null_bit_on width some)
end_below width end _ some below = omega (arith, null_bit_on width some)

-- ---- any kind

value_packs : (kind : FieldKind) (width : ℕ) (before : List ℕ) (value : Value) → IsKindWidth kind width → FitsKind kind value → HoldsValue width value
    → IfSome (stored_number value) (λ n. n ≤ greatest_number value) → ((units : List ℕ) → value ≡ Value.Text units → AreUnits units)
    → (HasBytes kind → length (before ++ value_bytes value) < 2 ^ (width - 1))
    → PacksPart kind (put_part width (element_for kind width (length (before ++ value_bytes value)) value) before (value_bytes value)) (Some value)
value_packs (FieldKind.Reference name) width before value wide fits held small are below = packs_reference width name value fits held small
value_packs FieldKind.Int width before value wide fits held small are below = packs_int width value fits held small
value_packs FieldKind.Long width before value wide fits held small are below = packs_long width value fits held
value_packs FieldKind.Boolean width before value wide fits held small are below =
    subst (λ (w : ℕ). SpellsBoolean (number_or_null w (stored_number value)) (stored_value value)) (sym wide) (packs_boolean value fits)
value_packs FieldKind.Text width before value wide fits held small are below = packs_text width before value fits (below tt) are
value_packs FieldKind.Bytes width before value wide fits held small are below = packs_bytes width before value fits (below tt)

value_below : (kind : FieldKind) (width end : ℕ) (value : Value) → IsKindWidth kind width → HoldsValue width value → (HasBytes kind → end < 2 ^ (width - 1)) → element_for kind width end value < 2 ^ width
value_below FieldKind.Text width end value wide held below = end_below width end value wide (below tt)
value_below FieldKind.Bytes width end value wide held below = end_below width end value wide (below tt)
value_below _ width end value wide held below = number_below width (stored_number value) held

value_ends : (kind : FieldKind) (width end : ℕ) (value : Value) → (HasBytes kind → end < 2 ^ (width - 1)) → HasBytes kind → offset_in width (element_for kind width end value) ≡ end
value_ends FieldKind.Text width end value below has = end_offset width end value (below has)
value_ends FieldKind.Bytes width end value below has = end_offset width end value (below has)
value_ends _ width end value below has = absurd has

value_taken : (kind : FieldKind) (width : ℕ) (before area : List ℕ) (value : Value) → area ≡ before ++ value_bytes value → IsKindWidth kind width → FitsKind kind value → HoldsValue width value
    → IfSome (stored_number value) (λ n. n ≤ greatest_number value) → ((units : List ℕ) → value ≡ Value.Text units → AreUnits units)
    → (HasBytes kind → length before + length (values_bytes (value ∷ [])) < 2 ^ (width - 1))
    → IsTaken kind width (element_for kind width (length area) value) before area (Some value)
value_taken kind width before area value is wide fits held small are below =
    let whole : values_bytes (value ∷ []) ≡ value_bytes value = append-nil (value_bytes value) in
    let ends : HasBytes kind → length (before ++ value_bytes value) < 2 ^ (width - 1) =
    λ has. let b = below has in let long = length-append before (value_bytes value) in let same = ap (λ (bs : List ℕ). length bs) whole in omega arith in
    subst (λ (bytes : List ℕ). IsTaken kind width (element_for kind width (length bytes) value) before bytes (Some value)) (sym is)
    record {
      grown = ap (λ (bytes : List ℕ). before ++ bytes) (sym whole);
      below = value_below kind width (length (before ++ value_bytes value)) value wide held ends;
      packs = value_packs kind width before value wide fits held small are ends;
      ends = value_ends kind width (length (before ++ value_bytes value)) value ends;
    }

-- the value is the one that is found
pub found_taken : (kind : FieldKind) (width element : ℕ) (before area : List ℕ) (found : Option Value) (value : Value) → found ≡ Some value → element ≡ element_for kind width (length area) value
    → area ≡ before ++ value_bytes value → IsKindWidth kind width → IfSome found (FitsKind kind) → IfSome found (HoldsValue width) → IfSome (stored_number value) (λ n. n ≤ greatest_number value)
    → ((units : List ℕ) → value ≡ Value.Text units → AreUnits units) → (HasBytes kind → length before + length (values_bytes (option_to_list found)) < 2 ^ (width - 1))
    → IsTaken kind width element before area found
found_taken kind width element before area found value there is grown wide fits held small are below =
    subst (λ (o : Option Value). IsTaken kind width element before area o) (sym there)
    (subst (λ (e : ℕ). IsTaken kind width e before area (Some value)) (sym is)
    (value_taken kind width before area value grown wide (subst (λ (o : Option Value). IfSome o (FitsKind kind)) there fits) (subst (λ (o : Option Value). IfSome o (HoldsValue width)) there held) small are
    (λ has. subst (λ (o : Option Value). length before + length (values_bytes (option_to_list o)) < 2 ^ (width - 1)) there (below has))))

-- ---- by whether the kind has bytes

text_kind : (kind : FieldKind) (units : List ℕ) → FitsKind kind (Value.Text units) → HasBytes kind
text_kind FieldKind.Text units fits = tt
text_kind _ units fits = absurd fits

bytes_kind : (kind : FieldKind) (bytes : List ℕ) → FitsKind kind (Value.Bytes bytes) → HasBytes kind
bytes_kind FieldKind.Bytes bytes fits = tt
bytes_kind _ bytes fits = absurd fits

no_bytes : (kind : FieldKind) (value : Value) → FitsKind kind value → (HasBytes kind → ⊥) → value_bytes value ≡ []
no_bytes kind (Value.Text units) fits none = absurd (none (text_kind kind units fits))
no_bytes kind (Value.Bytes bytes) fits none = absurd (none (bytes_kind kind bytes fits))
no_bytes kind _ fits none = refl

element_of_number : (kind : FieldKind) (width end : ℕ) (value : Value) → (HasBytes kind → ⊥) → element_for kind width end value ≡ number_or_null width (stored_number value)
element_of_number FieldKind.Text width end value none = absurd (none tt)
element_of_number FieldKind.Bytes width end value none = absurd (none tt)
element_of_number _ width end value none = refl

-- the value is the one that is found, and none of its kind has bytes
pub number_taken : (kind : FieldKind) (width element : ℕ) (area : List ℕ) (found : Option Value) (value : Value) → found ≡ Some value → element ≡ unwrap_or (stored_number value) (2 ^ width - 1)
    → (HasBytes kind → ⊥) → IsKindWidth kind width → IfSome found (FitsKind kind) → IfSome found (HoldsValue width) → IfSome (stored_number value) (λ n. n ≤ greatest_number value)
    → IsTaken kind width element area area found
number_taken kind width element area found value there is none wide fits held small =
    let fit : FitsKind kind value = subst (λ (o : Option Value). IfSome o (FitsKind kind)) there fits in
    found_taken kind width element area area found value there (is ∙ sym (element_of_number kind width (length area) value none))
    (sym (append-nil area) ∙ ap (λ (bytes : List ℕ). area ++ bytes) (sym (no_bytes kind value fit none))) wide fits held small
    (λ units text. absurd (none (text_kind kind units (subst (FitsKind kind) text fit)))) (λ has. absurd (none has))

element_of_end : (kind : FieldKind) (width end : ℕ) (value : Value) → HasBytes kind → element_for kind width end value ≡ end_element width end value
element_of_end FieldKind.Text width end value has = refl
element_of_end FieldKind.Bytes width end value has = refl
element_of_end _ width end value has = absurd has

number_small : (kind : FieldKind) (value : Value) → HasBytes kind → FitsKind kind value → IfSome (stored_number value) (λ n. n ≤ greatest_number value)
number_small FieldKind.Text Value.Null has fits = tt
number_small FieldKind.Text (Value.Text units) has fits = tt
number_small FieldKind.Text _ has fits = absurd fits
number_small FieldKind.Bytes Value.Null has fits = tt
number_small FieldKind.Bytes (Value.Bytes bytes) has fits = tt
number_small FieldKind.Bytes _ has fits = absurd fits
number_small _ value has fits = absurd has

-- the value is the one that is found, and its bytes are put
pub bytes_taken : (kind : FieldKind) (width element : ℕ) (before area : List ℕ) (found : Option Value) (value : Value) → found ≡ Some value → element ≡ end_element width (length area) value
    → area ≡ before ++ value_bytes value → HasBytes kind → IsKindWidth kind width → IfSome found (FitsKind kind) → IfSome found (HoldsValue width)
    → ((units : List ℕ) → value ≡ Value.Text units → AreUnits units) → (HasBytes kind → length before + length (values_bytes (option_to_list found)) < 2 ^ (width - 1))
    → IsTaken kind width element before area found
bytes_taken kind width element before area found value there is grown has wide fits held are below =
    found_taken kind width element before area found value there (is ∙ sym (element_of_end kind width (length area) value has)) grown wide fits held
    (number_small kind value has (subst (λ (o : Option Value). IfSome o (FitsKind kind)) there fits)) are below

gap_below : (kind : FieldKind) (width end : ℕ) → IsKindWidth kind width → (HasBytes kind → end < 2 ^ (width - 1)) → gap_element kind end < 2 ^ width
gap_below FieldKind.Text width end wide below = omega (arith, null_bit_on width wide, below tt)
gap_below FieldKind.Bytes width end wide below = omega (arith, null_bit_on width wide, below tt)
gap_below _ width end wide below = pow_pos width

gap_packs : (kind : FieldKind) (width : ℕ) (area : List ℕ) → PacksPart kind (record { width = width; element = gap_element kind (length area); start = length area; area = area }) None
gap_packs FieldKind.Text width area = refl
gap_packs FieldKind.Bytes width area = refl
gap_packs _ width area = refl

gap_ends : (kind : FieldKind) (width end : ℕ) → (HasBytes kind → end < 2 ^ (width - 1)) → HasBytes kind → offset_in width (gap_element kind end) ≡ end
gap_ends FieldKind.Text width end below has = offset_of_end width end (below has)
gap_ends FieldKind.Bytes width end below has = offset_of_end width end (below has)
gap_ends _ width end below has = absurd has

gap_taken : (kind : FieldKind) (width : ℕ) (area : List ℕ) → IsKindWidth kind width → (HasBytes kind → length area + length (values_bytes []) < 2 ^ (width - 1))
    → IsTaken kind width (gap_element kind (length area)) area area None
gap_taken kind width area wide below =
    let ends : HasBytes kind → length area < 2 ^ (width - 1) = λ has. let b = below has in omega arith in
    record {
      grown = sym (append-nil area);
      below = gap_below kind width (length area) wide ends;
      packs = gap_packs kind width area;
      ends = gap_ends kind width (length area) ends;
    }

-- there is no value
pub none_taken : (kind : FieldKind) (width element : ℕ) (area : List ℕ) (found : Option Value) → found ≡ None → element ≡ gap_element kind (length area) → IsKindWidth kind width
    → (HasBytes kind → length area + length (values_bytes (option_to_list found)) < 2 ^ (width - 1)) → IsTaken kind width element area area found
none_taken kind width element area found none is wide below =
    subst (λ (o : Option Value). IsTaken kind width element area area o) (sym none)
    (subst (λ (e : ℕ). IsTaken kind width e area area None) (sym is)
    (gap_taken kind width area wide (λ has. subst (λ (o : Option Value). length area + length (values_bytes (option_to_list o)) < 2 ^ (width - 1)) none (below has))))

-- where the bytes of a field end with those of a value
pub end_is : (before area : List ℕ) (end width : ℕ) (found : Option Value) (value : Value) → found ≡ Some value → area ≡ before ++ value_bytes value → end ≡ length area
    → length before + length (values_bytes (option_to_list found)) < 2 ^ (width - 1) → end < 2 ^ (width - 1)
end_is before area end width found value there grown is below =
    let here = subst (λ (o : Option Value). length before + length (values_bytes (option_to_list o)) < 2 ^ (width - 1)) there below in
    let whole = ap (λ (bs : List ℕ). length bs) (append-nil (value_bytes value)) in
    let long = ap (λ (bs : List ℕ). length bs) grown ∙ length-append before (value_bytes value) in
    omega arith
