-- Units are those of some text, or of none.
use Rattle.std.proofs.Common.{◌≡◌, ◌≤◌, ◌<◌, ◌+◌, ◌-◌, ◌%◌, ◌^◌, ◌⊎◌, ℕ, true, not, List, [], ◌∷◌, ◌++◌, get_or, Option, Some, None, Err, is_some, inl, inr, refl, ◌∙◌, subst, sym, ap, arith, rules}
use Rattle.std.specs.List.{flat_map, list_any}
use Rattle.std.specs.Char.Escape.{encode_utf16}
use Rattle.std.specs.Char.Utf16.{utf16_chars, lone_unit_char, surrogate_pair_char, has_unpaired_surrogate}
use Rattle.std.specs.Str.{all_scalars, encode_utf8_all}
use Rattle.std.proofs.Math.Utf8.{scalar, low_scalar}
use Rattle.std.proofs.lemmas.Bool.{cases_lt}
use Rattle.std.proofs.lemmas.List.Elements.{All-head, All-tail, All-nil, All-cons}
use Rattle.std.proofs.lemmas.Str.{utf16_chars_lone, utf16_chars_pair, chars_from_encodes}
use Rattle.hol_varint.specs.TextUnits.{AreUnits, IsTextOf}
use Rattle.hol_varint.proofs.OneUnit.{one_unit, two_units, lone_unit_char_low, lone_unit_char_high, IsPair}
use Rattle.hol_varint.proofs.Characters.{text_none, text_units-are}

-- The units are those of some characters, or a surrogate stands alone.
abbrev CharactersOr : List ℕ → Type 0
CharactersOr units = ((cs : List ℕ) × (all_scalars cs ≡ true) × (units ≡ flat_map encode_utf16 cs)) ⊎ (has_unpaired_surrogate units ≡ true)

lone_surrogate : (u : ℕ) → 0xD800 ≤ u → u < 0xE000 → lone_unit_char u ≡ None
lone_surrogate u from below = search rules

high_scalar : (c : ℕ) → 0xE000 ≤ c → c < 0x11_0000 → scalar c ≡ true
high_scalar c from below = search rules

-- a unit that is no surrogate is a character
lone_or : (u : ℕ) (us : List ℕ) → u < 2 ^ 16 → (u < 0xD800) ⊎ (0xE000 ≤ u) → lone_unit_char u ≡ Some u → scalar u ≡ true → (IsPair u (get_or us 0 0) → ⊥) →
    CharactersOr us → CharactersOr (u ∷ us)
lone_or u us small apart char is none (inl rest) = inl (
  u ∷ rest.0,
  rw is rest.1,
  ap (λ (xs : List ℕ). u ∷ xs) rest.2 ∙ ap (λ (xs : List ℕ). xs ++ flat_map encode_utf16 rest.0) (sym (one_unit u (omega (arith, small)))),
)
lone_or u us small apart char is none (inr unpaired) =
    inr (ap (λ (os : List (Option ℕ)). list_any (λ o. not (is_some o)) os) (utf16_chars_lone u us none ∙ ap (λ o. o ∷ utf16_chars us) char) ∙ unpaired)

-- a surrogate stands alone
alone : (u : ℕ) (us : List ℕ) → 0xD800 ≤ u → u < 0xE000 → (IsPair u (get_or us 0 0) → ⊥) → CharactersOr (u ∷ us)
alone u us from below none =
    inr (ap (λ (os : List (Option ℕ)). list_any (λ o. not (is_some o)) os) (utf16_chars_lone u us none ∙ ap (λ o. o ∷ utf16_chars us) (lone_surrogate u from below)))

-- two surrogates are a character
pair_or : (u v : ℕ) (us : List ℕ) → IsPair u v → CharactersOr us → CharactersOr (u ∷ v ∷ us)
pair_or u v us pair (inl rest) =
    let c = surrogate_pair_char u v in
    let units : encode_utf16 c ≡ u ∷ v ∷ [] = two_units c (omega arith)
    ∙ (ap (λ n. n ∷ (0xDC00 + (c - 0x1_0000) % 0x400) ∷ []) (omega (arith, pair)) ∙ ap (λ n. u ∷ n ∷ []) (omega (arith, pair))) in
    inl (
      c ∷ rest.0,
      rw (high_scalar c (omega arith) (omega (arith, pair))) rest.1,
      ap (λ (xs : List ℕ). u ∷ v ∷ xs) rest.2 ∙ ap (λ (xs : List ℕ). xs ++ flat_map encode_utf16 rest.0) (sym units),
    )
pair_or u v us pair (inr unpaired) = inr (ap (λ (os : List (Option ℕ)). list_any (λ o. not (is_some o)) os) (utf16_chars_pair u v us pair) ∙ unpaired)

unpaired_or : (u : ℕ) (us : List ℕ) → u < 2 ^ 16 → (IsPair u (get_or us 0 0) → ⊥) → CharactersOr us → CharactersOr (u ∷ us)
unpaired_or u us small none rest = elim (cases_lt u 0xD800) [
  | inl low ↦ lone_or u us small (inl low) (lone_unit_char_low u low) (low_scalar u low) none rest
  | inr from ↦ elim (cases_lt u 0xE000) [
    | inl below ↦ alone u us from below none
    | inr high ↦ lone_or u us small (inr high) (lone_unit_char_high u high) (high_scalar u high (omega (arith, small))) none rest
  ]
]

pair_dec : (u v : ℕ) → IsPair u v ⊎ (IsPair u v → ⊥)
pair_dec u v = elim (cases_lt u 0xD800) [
  | inl low ↦ inr (λ pair. omega (arith, pair.0, low))
  | inr from ↦ elim (cases_lt u 0xDC00) [
    | inr high ↦ inr (λ pair. omega (arith, pair.1, high))
    | inl below ↦ elim (cases_lt v 0xDC00) [
      | inl low ↦ inr (λ pair. omega (arith, pair.2, low))
      | inr start ↦ elim (cases_lt v 0xE000) [ inr over ↦ inr (λ pair. omega (arith, pair.3, over)) | inl end ↦ inl (from, below, start, end) ]
    ]
  ]
]

characters_or : (units : List ℕ) → AreUnits units → CharactersOr units
characters_or [] are = inl ([], refl, refl)
characters_or (u ∷ []) are = unpaired_or u [] (All-head (λ unit. unit < 2 ^ 16) u [] are) (λ pair. omega (arith, pair.2)) (inl ([], refl, refl))
characters_or (u ∷ v ∷ us) are =
    let rest = All-tail (λ unit. unit < 2 ^ 16) u (v ∷ us) are in
    elim (pair_dec u v) [
      | inl pair ↦ pair_or u v us pair (characters_or us (All-tail (λ unit. unit < 2 ^ 16) v us rest))
      | inr none ↦ unpaired_or u (v ∷ us) (All-head (λ unit. unit < 2 ^ 16) u (v ∷ us) are) none (characters_or (v ∷ us) rest)
    ]

units_or : (units : List ℕ) → AreUnits units ⊎ (AreUnits units → ⊥)
units_or [] = inl (All-nil (λ unit. unit < 2 ^ 16))
units_or (u ∷ us) = elim (cases_lt u (2 ^ 16)) [
  | inr over ↦ inr (λ are. omega (arith, over, All-head (λ unit. unit < 2 ^ 16) u us are))
  | inl small ↦ elim (units_or us) [
    | inl are ↦ inl (All-cons (λ unit. unit < 2 ^ 16) u us small are)
    | inr none ↦ inr (λ are. none (All-tail (λ unit. unit < 2 ^ 16) u us are))
  ]
]

text_of_characters : (units cs : List ℕ) → all_scalars cs ≡ true → units ≡ flat_map encode_utf16 cs → IsTextOf units (encode_utf8_all cs)
text_of_characters units cs scalars is = record {
  utf8 = (cs, (scalars, refl));
  same = ap (λ (xs : List ℕ). flat_map encode_utf16 xs) (sym (chars_from_encodes cs (encode_utf8_all cs) (cs, (scalars, refl)) refl)) ∙ sym is;
}

-- units are those of some text, or of none
pub some_text : (units : List ℕ) → ((text : List ℕ) × IsTextOf units text) ⊎ ((text : List ℕ) → IsTextOf units text → ⊥)
some_text units = elim (units_or units) [
  | inr none ↦ inr (λ text is. none (subst AreUnits is.same (text_units-are text is.utf8)))
  | inl are ↦ elim (characters_or units are) [
    | inl cs ↦ inl (encode_utf8_all cs.0, text_of_characters units cs.0 cs.1 cs.2)
    | inr unpaired ↦ inr (λ text is. (text_none {Z = Unit} {E = Unit} units (Err tt) tt (sym unpaired)).0 refl (text, is))
  ]
]
