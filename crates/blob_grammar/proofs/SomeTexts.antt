-- At each place of a blob a Java UTF text stands, or it cannot be read.
use Rattle.std.proofs.Common.{◌≡◌, ◌≤◌, ◌<◌, ◌+◌, ◌-◌, ◌*◌, ◌^◌, ◌⊎◌, ℕ, zero, suc, List, [], ◌∷◌, ◌++◌, get_or, take, drop, length, Some, None, inl, inr, refl, ◌∙◌, sym, ap, arith, append-nil}
use Rattle.std.proofs.lemmas.Bool.{cases_lt, cases_eq}
use Rattle.std.proofs.lemmas.List.Elements.{All-nil}
use Rattle.std.proofs.lemmas.List.{get_or-drop, length-drop, drop-drop, length-take}
use Rattle.std.specs.List.{flat_map}
use Rattle.hol_varint.specs.JavaBytes.{TellsUnit}
use Rattle.hol_varint.specs.JavaUtf.{unit_bytes, AreJavaBytes, UtfStandsAt, text_length}
use Rattle.hol_varint.proofs.Runs.{ReadSoFar}
use Rattle.hol_varint.proofs.JavaUnits.{TwoBytes, ThreeBytes, refused, one_byte, two_bytes, three_bytes}
use Rattle.hol_varint.proofs.JavaTexts.{text_more, text_refused, utf_found}
use Rattle.schema_model.specs.declared.reason.Reason.TheVariants.{Truncated, BadName}
use Rattle.blob_grammar.specs.Decided.{AreBytes, StandsThere, StuckThere}
use Rattle.blob_grammar.specs.Words.{UtfFails}

-- A unit stands at the front of the bytes, or none does.
abbrev UnitOr : List ℕ → Type 0
UnitOr bytes = ((unit : ℕ) × (count : ℕ) × TellsUnit bytes (Some (unit, count))) ⊎ TellsUnit bytes None

-- the low bits of a byte behind a unit's first one, or it is no such byte
low_or : (byte : ℕ) → ((bits : ℕ) × (byte ≡ 0x80 + bits) × (bits < 64)) ⊎ ((byte < 0x80) ⊎ (0xC0 ≤ byte))
low_or byte = elim (cases_lt byte 0x80) [
  | inl small ↦ inr (inl small)
  | inr low ↦ elim (cases_lt byte 0xC0) [ inl high ↦ inl (byte - 0x80, omega arith, omega arith) | inr over ↦ inr (inr over) ]
]

-- none of one byte, and none of three
only_two : (bytes : List ℕ) → 0xC0 ≤ get_or bytes 0 0 → get_or bytes 0 0 < 0xE0 → ((unit : ℕ) → TwoBytes bytes unit → ⊥) → UnitOr bytes
only_two bytes low high none = inr (refused bytes (λ u w. omega (arith, w.below, w.first)) none (λ u w. omega (arith, w.first)))

not_two : (bytes : List ℕ) (bits u : ℕ) → get_or bytes 1 0 ≡ 0x80 + bits → bits < 64 → (get_or bytes 0 0 - 0xC0) * 64 + bits < 0x80 →
    ((get_or bytes 0 0 - 0xC0) * 64 + bits ≡ 0 → ⊥) → TwoBytes bytes u → ⊥
not_two bytes bits u second small below some w =
    let same : (get_or bytes 0 0 - 0xC0) * 64 + bits ≡ u = omega (arith, w.first, w.second) in
    elim w.apart [ inl none ↦ some (same ∙ none) | inr from ↦ omega (arith, from, same, below) ]

two_bits : (bytes : List ℕ) (bits : ℕ) → 0xC0 ≤ get_or bytes 0 0 → get_or bytes 0 0 < 0xE0 → get_or bytes 1 0 ≡ 0x80 + bits → bits < 64 → UnitOr bytes
two_bits bytes bits low high second small = elim (cases_eq ((get_or bytes 0 0 - 0xC0) * 64 + bits) 0) [
  | inl null ↦ inl ((get_or bytes 0 0 - 0xC0) * 64 + bits, 2, two_bytes bytes ((get_or bytes 0 0 - 0xC0) * 64 + bits) bits low high second small refl (inl null))
  | inr some ↦ elim (cases_lt ((get_or bytes 0 0 - 0xC0) * 64 + bits) 0x80) [
    | inr from ↦ inl ((get_or bytes 0 0 - 0xC0) * 64 + bits, 2, two_bytes bytes ((get_or bytes 0 0 - 0xC0) * 64 + bits) bits low high second small refl (inr from))
    | inl below ↦ only_two bytes low high (λ u w. not_two bytes bits u second small below some w)
  ]
]

two_or : (bytes : List ℕ) → 0xC0 ≤ get_or bytes 0 0 → get_or bytes 0 0 < 0xE0 → UnitOr bytes
two_or bytes low high = elim (low_or (get_or bytes 1 0)) [
  | inr (inl small) ↦ only_two bytes low high (λ u w. omega (arith, w.second))
  | inr (inr over) ↦ only_two bytes low high (λ u w. omega (arith, w.second))
  | inl second ↦ two_bits bytes second.0 low high second.1 second.2
]

-- none of one byte, and none of two
only_three : (bytes : List ℕ) → 0xE0 ≤ get_or bytes 0 0 → get_or bytes 0 0 < 0xF0 → ((unit : ℕ) → ThreeBytes bytes unit → ⊥) → UnitOr bytes
only_three bytes low high none = inr (refused bytes (λ u w. omega (arith, w.below, w.first)) (λ u w. omega (arith, w.first, w.below)) none)

three_or : (bytes : List ℕ) → 0xE0 ≤ get_or bytes 0 0 → get_or bytes 0 0 < 0xF0 → UnitOr bytes
three_or bytes low high = elim (low_or (get_or bytes 1 0)) [
  | inr (inl small) ↦ only_three bytes low high (λ u w. omega (arith, w.second))
  | inr (inr over) ↦ only_three bytes low high (λ u w. omega (arith, w.second))
  | inl second ↦ elim (low_or (get_or bytes 2 0)) [
    | inr (inl small) ↦ only_three bytes low high (λ u w. omega (arith, w.third))
    | inr (inr over) ↦ only_three bytes low high (λ u w. omega (arith, w.third))
    | inl third ↦ elim (cases_lt ((get_or bytes 0 0 - 0xE0) * 4096 + second.0 * 64 + third.0) 0x800) [
      | inr from ↦ inl (
        (get_or bytes 0 0 - 0xE0) * 4096 + second.0 * 64 + third.0,
        3,
        three_bytes bytes ((get_or bytes 0 0 - 0xE0) * 4096 + second.0 * 64 + third.0) second.0 third.0 low high second.1 second.2 third.1 third.2 refl from,
      )
      | inl below ↦ only_three bytes low high (λ u w. omega (arith, w.from, w.first, w.second, w.third, second.1, second.2, third.1, third.2, below))
    ]
  ]
]

unit_or : (bytes : List ℕ) → 0 < length bytes → UnitOr bytes
unit_or bytes some = elim (cases_lt (get_or bytes 0 0) 0xC0) [
  | inl small ↦ elim (cases_eq (get_or bytes 0 0) 0) [
    | inl null ↦ none small (inl null)
    | inr first ↦ elim (cases_lt (get_or bytes 0 0) 0x80) [
      | inl one ↦ (let least : 0 < get_or bytes 0 0 = omega (arith, first) in
          inl (get_or bytes 0 0, 1, (omega arith, omega (arith, some), one_byte bytes (get_or bytes 0 0) some refl least one)))
      | inr over ↦ none small (inr over)
    ]
  ]
  | inr low ↦ elim (cases_lt (get_or bytes 0 0) 0xE0) [
    | inl high ↦ two_or bytes low high
    | inr more ↦ elim (cases_lt (get_or bytes 0 0) 0xF0) [
      | inl high ↦ three_or bytes more high
      | inr over ↦ inr (refused bytes (λ u w. omega (arith, w.first, w.below)) (λ u w. omega (arith, w.first, w.below)) (λ u w. omega (arith, w.first, w.below)))
    ]
  ]
]
  where
    none : get_or bytes 0 0 < 0xC0 → (get_or bytes 0 0 ≡ 0) ⊎ (0x80 ≤ get_or bytes 0 0) → UnitOr bytes
    none small (inl null) = inr (refused bytes (λ u w. omega (arith, w.some, w.first, null)) (λ u w. omega (arith, w.first, null)) (λ u w. omega (arith, w.first, null)))
    none small (inr over) = inr (refused bytes (λ u w. omega (arith, w.below, w.first, over)) (λ u w. omega (arith, w.first, small)) (λ u w. omega (arith, w.first, small)))

-- The bytes are those of some units, or of none.
abbrev TextOr : List ℕ → Type 0
TextOr bytes = ((units : List ℕ) × AreJavaBytes bytes units) ⊎ ((units : List ℕ) → AreJavaBytes bytes units → ⊥)

nothing_left : (place : ℕ) (bytes : List ℕ) → length bytes ≤ place → drop place bytes ≡ []
nothing_left place bytes past = by_length (drop place bytes) (omega (arith, past, length-drop place bytes))
  where
    by_length : (xs : List ℕ) → length xs ≡ 0 → xs ≡ []
    by_length [] e = refl
    by_length (x ∷ xs) e = absurd (omega (arith, e))

-- all bytes are read
read_whole : (bytes : List ℕ) (place : ℕ) (units : List ℕ) → length bytes ≤ place → ReadSoFar unit_bytes bytes place units → AreJavaBytes bytes units
read_whole bytes place units past so_far =
    (so_far.are, so_far.spelled ∙ (ap (λ (xs : List ℕ). flat_map unit_bytes units ++ xs) (nothing_left place bytes past) ∙ append-nil (flat_map unit_bytes units)))

unit_left : (bytes : List ℕ) (place : ℕ) → place < length bytes → 0 < length (take (length bytes - place) (drop place bytes))
unit_left bytes place inside = omega (arith, inside, length-take (length bytes - place) (drop place bytes), length-drop place bytes)

text_or : (fuel : ℕ) (bytes : List ℕ) (place : ℕ) (units : List ℕ) → length bytes ≤ place + fuel → ReadSoFar unit_bytes bytes place units → TextOr bytes
text_or zero bytes place units enough so_far = inl (units, read_whole bytes place units (omega (arith, enough)) so_far)
text_or (suc fuel) bytes place units enough so_far = elim (cases_lt place (length bytes)) [
  | inr past ↦ inl (units, read_whole bytes place units past so_far)
  | inl inside ↦ elim (unit_or (take (length bytes - place) (drop place bytes)) (unit_left bytes place inside)) [
    | inl r ↦ text_or fuel bytes (place + r.1) (units ++ r.0 ∷ []) (omega (arith, enough, r.2.0)) (text_more bytes place units so_far inside r.0 r.1 r.2)
    | inr none ↦ inr (text_refused bytes place units so_far inside none)
  ]
]

java_or : (bytes : List ℕ) → TextOr bytes
java_or bytes = text_or (length bytes) bytes 0 [] (omega arith) (record {
  within = omega arith;
  are = All-nil (λ unit. unit < 2 ^ 16);
  spelled = refl;
  only = λ all are. (all, are);
})

-- a text stands, or it cannot be read
pub some_units : (bytes : List ℕ) (at : ℕ) → AreBytes bytes → at ≤ length bytes →
    StandsThere UtfStandsAt bytes at ⊎ StuckThere (λ bytes at place why. (place ≡ at) × UtfFails (drop at bytes) why) bytes at
some_units bytes at all within = elim (cases_lt (length (drop at bytes)) (2 + text_length (drop at bytes))) [
  | inl inside ↦ inr (at, Truncated, (refl, inl (inside, refl)))
  | inr whole ↦ elim (java_or (take (text_length (drop at bytes)) (drop 2 (drop at bytes)))) [
    | inr bad ↦ inr (at, BadName, (refl, inr (record { whole = whole; other = bad }, refl)))
    | inl text ↦ found text.0 whole text.1
  ]
]
  where
    first : get_or (drop at bytes) 0 0 ≡ get_or bytes at 0
    first = get_or-drop at bytes 0 0 ∙ ap (λ n. get_or bytes n 0) (omega arith)

    second : get_or (drop at bytes) 1 0 ≡ get_or bytes (at + 1) 0
    second = get_or-drop at bytes 1 0

    small : (k : ℕ) → k < length bytes → get_or bytes k 0 < 256
    small k inside = all k 0 inside

    found : (units : List ℕ) → 2 + text_length (drop at bytes) ≤ length (drop at bytes) → AreJavaBytes (take (text_length (drop at bytes)) (drop 2 (drop at bytes))) units →
        StandsThere UtfStandsAt bytes at ⊎ StuckThere (λ bytes at place why. (place ≡ at) × UtfFails (drop at bytes) why) bytes at
    found units whole are =
        let len = text_length (drop at bytes) in
        let within : at + 2 + len ≤ length bytes = omega (arith, whole, length-drop at bytes) in
        let count : at + 2 + len - (at + 2) ≡ len = omega arith in
        let text : take len (drop 2 (drop at bytes)) ≡ take (at + 2 + len - (at + 2)) (drop (at + 2) bytes) =
        ap (λ (xs : List ℕ). take len xs) (drop-drop 2 at bytes) ∙ ap (λ n. take n (drop (at + 2) bytes)) (sym count) in
        let stands = utf_found bytes at len (omega (arith, first, second)) within (small at (omega (arith, within))) (small (at + 1) (omega (arith, within)))
        units (are.0, sym text ∙ are.1) in
        inl (units, at + 2 + len, stands, within)
