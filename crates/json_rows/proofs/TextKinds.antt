-- Units are those of some text, or of none.
use Rattle.std.proofs.Common.{◌≡◌, inl, inr, ◌⊎◌, ℕ, ◌+◌, ◌-◌, ◌/◌, ◌%◌, ◌^◌, ◌<◌, ◌≤◌, Bool, true, false, not, ◌||◌, ◌&&◌, List, [], ◌∷◌, ◌++◌, get_or, suc, Some, None, Option, Err, is_some, refl, sym, ◌∙◌, ap, subst, arith}
use Rattle.std.specs.List.{flat_map, list_any}
use Rattle.std.specs.Char.Escape.{encode_utf16}
use Rattle.std.specs.Char.Utf16.{has_unpaired_surrogate, lone_unit_char, surrogate_pair_char}
use Rattle.std.specs.Str.{IsUtf8, all_scalars, encode_utf8_all}
use Rattle.std.proofs.str.Utf16.{one_unit, two_units, lone_unit_char_surrogate, IsPair}
use Rattle.std.proofs.lemmas.Bool.{cases_lt}
use Rattle.std.proofs.lemmas.Bool.Decides.{nat_tests}
use Rattle.std.proofs.lemmas.Str.{utf16_chars_lone, utf16_chars_pair, chars_from_encodes}
use lib.Utf8.{scalar, low_scalar}
use Rattle.hol_varint.specs.TextUnits.{AreUnits, AreWellFormed}
use Rattle.hol_varint.proofs.Characters.{text_none, text_units-are}

-- the units of some characters
record Spells (units : List ℕ) : Type 0 where
  characters : List ℕ
  scalars : all_scalars characters ≡ true
  same : flat_map encode_utf16 characters ≡ units

neither : (x y : Bool) → (x || y) ≡ false → (x ≡ false) × (y ≡ false)
neither true y e = absurd cc
neither false y e = (refl, e)

both : (x y : Bool) → x ≡ true → y ≡ true → (x && y) ≡ true
both x y p q = cc

one_more : (c : ℕ) (front units : List ℕ) → scalar c ≡ true → encode_utf16 c ≡ front → Spells units → Spells (front ++ units)
one_more c front units is spelled rest = record {
  characters = c ∷ rest.characters;
  scalars = both _ _ is rest.scalars;
  same = λ i. spelled i ++ rest.same i;
}

high_scalar : (c : ℕ) → 57344 ≤ c → c < 1114112 → scalar c ≡ true
high_scalar c from below = grind (arith, nat_tests)

lone_spells : (u : ℕ) (us : List ℕ) → u < 2 ^ 16 → (u < 0xD800) ⊎ (0xE000 ≤ u) → Spells us → Spells (u ∷ us)
lone_spells u us fits (inl low) rest = one_more u (u ∷ []) us (low_scalar u low) (one_unit u (omega arith)) rest
lone_spells u us fits (inr high) rest = one_more u (u ∷ []) us (high_scalar u high (omega arith)) (one_unit u (omega arith)) rest

pair_spells : (u v : ℕ) (us : List ℕ) → IsPair u v → Spells us → Spells (u ∷ v ∷ us)
pair_spells u v us (a, b, c, d) rest =
    let made = surrogate_pair_char u v in
    let over : 0x1_0000 ≤ made = omega arith in
    let first : 0xD800 + (made - 0x1_0000) / 0x400 ≡ u = omega arith in
    let second : 0xDC00 + (made - 0x1_0000) % 0x400 ≡ v = omega arith in
    one_more made (u ∷ v ∷ []) us (high_scalar made (omega arith) (omega arith)) (two_units made over ∙ (λ i. first i ∷ second i ∷ [])) rest

lone_kind : (u : ℕ) (us : List ℕ) → (IsPair u (get_or us 0 0) → ⊥) → has_unpaired_surrogate (u ∷ us) ≡ false →
    ((u < 0xD800) ⊎ (0xE000 ≤ u)) × (has_unpaired_surrogate us ≡ false)
lone_kind u us apart paired =
    let parts = neither _ _ (sym (ap (list_any (λ o. not (is_some o))) (utf16_chars_lone u us apart)) ∙ paired) in (
      elim (cases_lt u 0xD800) [
        | inl low ↦ inl low
        | inr from ↦ elim (cases_lt u 0xE000) [
          | inl below ↦ absurd (unpaired (lone_unit_char u) (lone_unit_char_surrogate u from below) parts.0)
          | inr high ↦ inr high
        ]
      ],
      parts.1,
    )
  where
    unpaired : (o : Option ℕ) → o ≡ None → not (is_some o) ≡ false → ⊥
    unpaired None is e = cc
    unpaired (Some x) is e = cc

pair_rest : (u v : ℕ) (us : List ℕ) → IsPair u v → has_unpaired_surrogate (u ∷ v ∷ us) ≡ false → has_unpaired_surrogate us ≡ false
pair_rest u v us pair paired = sym (ap (list_any (λ o. not (is_some o))) (utf16_chars_pair u v us pair)) ∙ paired

pair_or_not : (u v : ℕ) → IsPair u v ⊎ (IsPair u v → ⊥)
pair_or_not u v =
    elim (cases_lt u 0xD800) [
      | inl low ↦ inr (λ pair. omega (arith, pair.0))
      | inr a ↦ elim (cases_lt u 0xDC00) [
        | inr over ↦ inr (λ pair. omega (arith, pair.1))
        | inl b ↦ elim (cases_lt v 0xDC00) [
          | inl low ↦ inr (λ pair. omega (arith, pair.2))
          | inr c ↦ elim (cases_lt v 0xE000) [ inl d ↦ inl (a, b, c, d) | inr over ↦ inr (λ pair. omega (arith, pair.3)) ]
        ]
      ]
    ]

abbrev EachUnit : List ℕ → Type 0
EachUnit [] = Unit {0}
EachUnit (u ∷ us) = (u < 2 ^ 16) × EachUnit us

spells : (units : List ℕ) → EachUnit units → has_unpaired_surrogate units ≡ false → Spells units
spells [] each paired = record { characters = []; scalars = refl; same = refl }
spells (u ∷ []) each paired =
    let kind = lone_kind u [] (λ pair. omega (arith, pair.2)) paired in
    lone_spells u [] each.0 kind.0 (spells [] tt kind.1)
spells (u ∷ v ∷ us) each paired =
    elim (pair_or_not u v) [
      | inl pair ↦ pair_spells u v us pair (spells us each.1.1 (pair_rest u v us pair paired))
      | inr apart ↦ (let kind = lone_kind u (v ∷ us) apart paired in lone_spells u (v ∷ us) each.0 kind.0 (spells (v ∷ us) each.1 kind.1))
    ]

each_or_not : (units : List ℕ) → EachUnit units ⊎ (AreUnits units → ⊥)
each_or_not [] = inl tt
each_or_not (u ∷ us) =
    elim (cases_lt u (2 ^ 16)) [
      | inr over ↦ inr (λ all. let first : u < 2 ^ 16 = all 0 0 (omega arith) in omega arith)
      | inl fits ↦ elim (each_or_not us) [
        | inl rest ↦ inl (fits, rest)
        | inr none ↦ inr (λ all. none (λ k d below. all (suc k) d (omega arith)))
      ]
    ]

spelled_text : (units : List ℕ) → Spells units → AreWellFormed units
spelled_text units s =
    let utf8 : IsUtf8 (encode_utf8_all s.characters) = (s.characters, (s.scalars, refl)) in (
      encode_utf8_all s.characters,
      record {
        utf8 = utf8;
        same = ap (flat_map encode_utf16) (sym (chars_from_encodes s.characters (encode_utf8_all s.characters) utf8 refl)) ∙ s.same;
      },
    )

pub text_or_none : (units : List ℕ) → AreWellFormed units ⊎ (AreWellFormed units → ⊥)
text_or_none units =
    elim (each_or_not units) [
      | inl each ↦ by_pairs (has_unpaired_surrogate units) refl each
      | inr none ↦ inr (λ text. none (subst AreUnits text.1.same (text_units-are text.0 text.1.utf8)))
    ]
  where
    by_pairs : (unpaired : Bool) → has_unpaired_surrogate units ≡ unpaired → EachUnit units → AreWellFormed units ⊎ (AreWellFormed units → ⊥)
    by_pairs false is each = inl (spelled_text units (spells units each is))
    by_pairs true is each = inr ((text_none {Z = Unit {0}} {E = Unit {0}} units (Err tt) tt (sym is)).0 refl)
