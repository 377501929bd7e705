-- The characters of a text, its UTF-16 units, and back.
use Rattle.std.proofs.Common.{◌≡◌, inl, inr, ℕ, ◌+◌, ◌-◌, ◌*◌, ◌/◌, ◌%◌, ◌^◌, ◌<◌, true, false, not, List, [], ◌∷◌, ◌++◌, map, Some, Result, Ok, Err, is_err, is_some, refl, sym, ◌∙◌, ap, subst, arith}
use Rattle.std.specs.Prelude.{All, IfOk, IfSome, IsSomeAnd, IsNone, ◌↔◌}
use Rattle.std.specs.Option.{unwrap_or}
use Rattle.std.specs.Result.{result_ok}
use Rattle.std.specs.List.{flat_map, list_any}
use Rattle.std.specs.Char.Escape.{encode_utf16}
use Rattle.std.specs.Char.Utf16.{utf16_chars, utf16_lossy_chars, has_unpaired_surrogate}
use Rattle.std.specs.Str.{IsAscii, IsUtf8, chars, all_scalars, encode_utf8_all}
use Rattle.std.specs.String.{string_bytes, IsUtf16Of}
use Rattle.std.specs.declared.string.String.{String}
use Rattle.hol_varint.proofs.OneUnit.{one_unit, two_units, lone_unit_char_low, lone_unit_char_high, IsPair}
use Rattle.std.proofs.lemmas.Bool.{cases_lt, and_parts, false≢true}
use Rattle.std.proofs.lemmas.List.Elements.{All-nil, All-cons, All-append, All-head, All-tail, All-weaker}
use Rattle.std.proofs.lemmas.Str.Ascii.{All-from_ascii}
use Rattle.std.proofs.lemmas.Str.{chars-IsAscii, utf16_chars-nil, utf16_chars_lone, utf16_chars_pair, chars_from_encodes, encodes-chars, scalars-chars, IsUtf8-string_bytes}
use lib.Utf8.{scalar, scalar_cases}
use Rattle.hol_varint.specs.TextUnits.{AreUnits, text_units, IsTextOf, AreWellFormed}

-- the units of characters spell those characters
utf16_chars-units : (cs : List ℕ) → all_scalars cs ≡ true → utf16_chars (flat_map encode_utf16 cs) ≡ map Some cs
utf16_chars-units [] all = utf16_chars-nil
utf16_chars-units (c ∷ cs) all =
    let parts = and_parts _ _ all in
    let rest = utf16_chars-units cs parts.1 in
    elim (scalar_cases c parts.0) [
      | inl low ↦ (let fits : c < 0x1_0000 = omega arith in
          ap (λ us. utf16_chars (us ++ flat_map encode_utf16 cs)) (one_unit c fits)
          ∙ utf16_chars_lone c (flat_map encode_utf16 cs) (λ pair. omega arith)
          ∙ ap (λ o. o ∷ utf16_chars (flat_map encode_utf16 cs)) (lone_unit_char_low c low) ∙ ap (λ os. Some c ∷ os) rest)
      | inr high ↦ elim (cases_lt c 0x1_0000) [
        | inl fits ↦ (let from = high.0 in
            ap (λ us. utf16_chars (us ++ flat_map encode_utf16 cs)) (one_unit c fits)
            ∙ utf16_chars_lone c (flat_map encode_utf16 cs) (λ pair. omega arith)
            ∙ ap (λ o. o ∷ utf16_chars (flat_map encode_utf16 cs)) (lone_unit_char_high c from) ∙ ap (λ os. Some c ∷ os) rest)
        | inr over ↦ (let below = high.1 in
            let u_is : 0x1_0000 + ((0xD800 + (c - 0x1_0000) / 0x400) - 0xD800) * 0x400 + ((0xDC00 + (c - 0x1_0000) % 0x400) - 0xDC00) ≡ c = omega arith in
            let pair : IsPair (0xD800 + (c - 0x1_0000) / 0x400) (0xDC00 + (c - 0x1_0000) % 0x400) = (omega arith, omega arith, omega arith, omega arith) in
            ap (λ us. utf16_chars (us ++ flat_map encode_utf16 cs)) (two_units c over)
            ∙ utf16_chars_pair (0xD800 + (c - 0x1_0000) / 0x400) (0xDC00 + (c - 0x1_0000) % 0x400) (flat_map encode_utf16 cs) pair
            ∙ ap (λ d. Some d ∷ utf16_chars (flat_map encode_utf16 cs)) u_is ∙ ap (λ os. Some c ∷ os) rest)
      ]
    ]

-- each character has one or two units
character-are : (c : ℕ) → scalar c ≡ true → AreUnits (encode_utf16 c)
character-are c is = elim (cases_lt c 0x1_0000) [
  | inl fits ↦ subst AreUnits (sym (one_unit c fits)) (All-cons (λ unit. unit < 2 ^ 16) c [] fits (All-nil (λ unit. unit < 2 ^ 16)))
  | inr over ↦ (let below : c < 0x11_0000 = elim (scalar_cases c is) [ inl low ↦ omega arith | inr high ↦ high.1 ] in
      subst AreUnits (sym (two_units c over))
      (All-cons (λ unit. unit < 2 ^ 16) (0xD800 + (c - 0x1_0000) / 0x400) ((0xDC00 + (c - 0x1_0000) % 0x400) ∷ []) (omega arith)
      (All-cons (λ unit. unit < 2 ^ 16) (0xDC00 + (c - 0x1_0000) % 0x400) [] (omega arith) (All-nil (λ unit. unit < 2 ^ 16)))))
]

units-are : (cs : List ℕ) → all_scalars cs ≡ true → AreUnits (flat_map encode_utf16 cs)
units-are [] all = All-nil (λ unit. unit < 2 ^ 16)
units-are (c ∷ cs) all =
    let parts = and_parts _ _ all in
    All-append (λ unit. unit < 2 ^ 16) (encode_utf16 c) (flat_map encode_utf16 cs) (character-are c parts.0) (units-are cs parts.1)

pub text_units-are : (text : List ℕ) → IsUtf8 text → AreUnits (text_units text)
text_units-are text is = units-are (chars text) (scalars-chars text is)

-- the units of a text spell its characters, so there is one text of some units
spelled_characters : (units text : List ℕ) → IsTextOf units text → utf16_chars units ≡ map Some (chars text)
spelled_characters units text is = ap utf16_chars (sym is.same) ∙ utf16_chars-units (chars text) (scalars-chars text is.utf8)

lossy-Some : (cs : List ℕ) → map (λ o. unwrap_or o 0xFFFD) (map Some cs) ≡ cs
lossy-Some [] = refl
lossy-Some (c ∷ cs) = ap (λ ds. c ∷ ds) (lossy-Some cs)

unpaired-Some : (cs : List ℕ) → list_any (λ o. not (is_some o)) (map Some cs) ≡ false
unpaired-Some [] = refl
unpaired-Some (c ∷ cs) = unpaired-Some cs

text_is : (units text : List ℕ) → IsTextOf units text → encode_utf8_all (utf16_lossy_chars units) ≡ text
text_is units text is =
    ap (λ os. encode_utf8_all (map (λ o. unwrap_or o 0xFFFD) os)) (spelled_characters units text is) ∙ ap encode_utf8_all (lossy-Some (chars text)) ∙ encodes-chars text is.utf8

text_paired : (units text : List ℕ) → IsTextOf units text → has_unpaired_surrogate units ≡ false
text_paired units text is = ap (list_any (λ o. not (is_some o))) (spelled_characters units text is) ∙ unpaired-Some (chars text)

pub text_once : (units s t : List ℕ) → IsTextOf units s → IsTextOf units t → s ≡ t
text_once units s t p q = sym (text_is units s p) ∙ text_is units t q

text_from : (units bytes : List ℕ) → IsUtf8 bytes → IsUtf16Of units bytes → IsTextOf units bytes
text_from units bytes utf8 of = record {
  utf8 = utf8;
  same = ap (flat_map encode_utf16) (sym (chars_from_encodes of.0 bytes utf8 (sym of.2))) ∙ sym of.1;
}

-- what std's reader of units tells, of a text or of none
module _ {Z E : Type 0} (units : List ℕ) where
  pub text_some : (r : Result (String Z) E) → IfOk r (λ s. IsUtf16Of units (string_bytes s)) → IfSome (result_ok r) (λ text. IsTextOf units (string_bytes text))
  text_some (Ok s) of = text_from units (string_bytes s) (IsUtf8-string_bytes s) of
  text_some (Err e) of = tt

  pub text_none : (r : Result (String Z) E) → IfOk r (λ s. IsUtf16Of units (string_bytes s)) → is_err r ≡ has_unpaired_surrogate units → IsNone (result_ok r) ↔ (AreWellFormed units → ⊥)
  text_none (Ok s) of unpaired = (λ e. absurd cc, λ none. absurd (none (string_bytes s, text_from units (string_bytes s) (IsUtf8-string_bytes s) of)))
  text_none (Err e) of unpaired = (λ _ is. false≢true (sym (unpaired ∙ text_paired units is.0 is.1)), λ _. refl)

  pub text_found : (r : Result (String Z) E) → IfOk r (λ s. IsUtf16Of units (string_bytes s)) → is_err r ≡ has_unpaired_surrogate units → (text : List ℕ) → IsTextOf units text → IsSomeAnd (result_ok r) (λ found. string_bytes found ≡ text)
  text_found (Ok s) of unpaired text is = text_once units (string_bytes s) text (text_from units (string_bytes s) (IsUtf8-string_bytes s) of) is
  text_found (Err e) of unpaired text is = absurd (false≢true (sym (unpaired ∙ text_paired units text is)))

-- a text of ASCII has its bytes as its units
plain_units : (bytes : List ℕ) → All (λ b. b < 128) bytes → flat_map encode_utf16 bytes ≡ bytes
plain_units [] all = refl
plain_units (b ∷ bytes) all =
    let small = All-head (λ c. c < 128) b bytes all in
    ap (λ us. us ++ flat_map encode_utf16 bytes) (one_unit b (omega (arith, small))) ∙ ap (λ us. b ∷ us) (plain_units bytes (All-tail (λ c. c < 128) b bytes all))

pub ascii_units : (text : List ℕ) → IsAscii text → text_units text ≡ text
ascii_units text is = ap (flat_map encode_utf16) (chars-IsAscii text is) ∙ plain_units text (All-from_ascii text is)

pub ascii_are : (text : List ℕ) → IsAscii text → AreUnits text
ascii_are text is = All-weaker (λ b. b < 128) (λ b. b < 2 ^ 16) (λ b small. omega (arith, small)) text (All-from_ascii text is)
