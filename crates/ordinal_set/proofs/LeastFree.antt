-- Lemmas on the least number in neither of two word arrays' populations.
use Rattle.std.proofs.Common.{◌≡◌, ℕ, ◌+◌, ◌-◌, ◌*◌, ◌/◌, ◌%◌, ◌^◌, ◌<◌, ◌≤◌, true, false, List, length, get_or, max, ◌⊎◌, refl, ap, ◌∙◌, inl, inr, arith, w64}
use Rattle.std.specs.Int.{bit_at, trailing_ones}
use Rattle.std.specs.Int.Bits.{bit_or}
use Rattle.std.proofs.lemmas.Bool.{cases_lt}
use Rattle.std.proofs.lemmas.Nat.{div-mul-add, mod-mul-add}
use Rattle.std.proofs.lemmas.Nat.Bits.{bit_at-lt, bit_at_or, bit_at_ones, bit_at_ones_above, bit_at-trailing_ones}
use Rattle.ordinal_set.specs.Ordinals.{IsLeastFree}
use Rattle.ordinal_set.specs.Population.{has_bit, population_of, FitOrdinals}
use Rattle.ordinal_set.proofs.Populations.{set_bit, clear_bit, bit_past, bit_from_member, member_from_bit}

-- each number from one on, and below another one, is in one of the arrays
abbrev pub AreTaken : List ℕ → List ℕ → ℕ → ℕ → Type 0
AreTaken words others low high = (m : ℕ) → low ≤ m → m < high → (has_bit words m ≡ true) ⊎ (has_bit others m ≡ true)

-- the two words at a place together
abbrev pub both_at : List ℕ → List ℕ → ℕ → ℕ
both_at words others place = bit_or (get_or words place 0) (get_or others place 0)

-- a word of the bits of both arrays from `low` on, in which all lower ones are set
pub record IsTakenFrom (words others : List ℕ) (low place word : ℕ) : Type 0 where
  pub kept : (i : ℕ) → i < 64 → low ≤ place * 64 + i → bit_at word i ≡ bit_at (both_at words others place) i
  pub filled : (i : ℕ) → i < 64 → place * 64 + i < low → bit_at word i ≡ 1

-- a bit of the two words together
either_bit : (a b i : ℕ) → bit_at (bit_or a b) i ≡ 1 → (bit_at a i ≡ 1) ⊎ (bit_at b i ≡ 1)
either_bit a b i one =
    let both = bit_at_or a b i in
    let first = bit_at-lt a i in
    elim (cases_lt (bit_at a i) 1) [
      | inl none ↦ inr (omega arith)
      | inr some ↦ inl (omega arith)
    ]

taken_here : (words others : List ℕ) (m place : ℕ) → m / 64 ≡ place → bit_at (both_at words others place) (m % 64) ≡ 1 → (has_bit words m ≡ true) ⊎ (has_bit others m ≡ true)
taken_here words others m place row one =
    elim (either_bit (get_or words place 0) (get_or others place 0) (m % 64) one) [
      | inl first ↦ inl (set_bit words m (ap (λ k. bit_at (get_or words k 0) (m % 64)) row ∙ first))
      | inr second ↦ inr (set_bit others m (ap (λ k. bit_at (get_or others k 0) (m % 64)) row ∙ second))
    ]

-- a full word more
pub taken_more : (words others : List ℕ) (low place word : ℕ) → word ≡ 2 ^ 64 - 1 → IsTakenFrom words others low place word → AreTaken words others low (place * 64) → AreTaken words others low ((place + 1) * 64)
taken_more words others low place word full is before m from within =
    elim (cases_lt m (place * 64)) [
      | inl earlier ↦ before m from earlier
      | inr here ↦
          let row : m / 64 ≡ place = omega arith in
          let one : bit_at word (m % 64) ≡ 1 = ap (λ w. bit_at w (m % 64)) full ∙ bit_at_ones 64 (m % 64) (omega arith) in
          let kept = is.kept (m % 64) (omega arith) (omega arith) in
          taken_here words others m place row (omega arith)
    ]

-- a number with a clear bit in both arrays, up to which all are taken
pub least_is : (words others : List ℕ) (low least : ℕ) → low ≤ least → has_bit words least ≡ false → has_bit others least ≡ false → AreTaken words others low least
    → IsLeastFree low (population_of words) (population_of others) least
least_is words others low least reached clear other_clear taken = record {
  free = λ h. let one = bit_from_member words least h in absurd cc;
  other_free = λ h. let one = bit_from_member others least h in absurd cc;
  reached = reached;
  below = λ m from within.
      elim (taken m from within) [
        | inl one ↦ inl (member_from_bit words m one)
        | inr one ↦ inr (member_from_bit others m one)
      ];
}

-- the lowest clear bit of the first word that has one
pub least_in_word : (words others : List ℕ) (low place word : ℕ) → word + 1 < 2 ^ 64 → IsTakenFrom words others low place word → AreTaken words others low (place * 64)
    → IsLeastFree low (population_of words) (population_of others) (place * 64 + trailing_ones w64 word)
least_in_word words others low place word fits is before =
    let lowest = bit_at-trailing_ones w64 word fits in
    let ones = trailing_ones w64 word in
    let least = place * 64 + ones in
    let inside : ones < 64 = lowest.0 in
    let row : least / 64 ≡ place = div-mul-add place 64 ones inside in
    let column : least % 64 ≡ ones = mod-mul-add place 64 ones inside in
    let none = lowest.1 in
    let reached : low ≤ least =
    elim (cases_lt least low) [
      | inl under ↦ let one = is.filled ones inside under in absurd (omega arith)
      | inr over ↦ over
    ] in
    let kept = is.kept ones inside reached in
    let both = bit_at_or (get_or words place 0) (get_or others place 0) ones in
    let clear : bit_at (get_or words (least / 64) 0) (least % 64) ≡ 0 = rw (row, column) (omega arith) in
    let other_clear : bit_at (get_or others (least / 64) 0) (least % 64) ≡ 0 = rw (row, column) (omega arith) in
    least_is words others low least reached (clear_bit words least clear) (clear_bit others least other_clear) (λ m from within.
    elim (cases_lt m (place * 64)) [
      | inl earlier ↦ before m from earlier
      | inr here ↦
          let same : m / 64 ≡ place = omega arith in
          let one = lowest.2 (m % 64) (omega arith) in
          let as_is = is.kept (m % 64) (omega arith) (omega arith) in
          taken_here words others m place same (omega arith)
    ])

-- behind the words no number is taken
pub least_past : (words others : List ℕ) (low least : ℕ) → low ≤ least → max (length words) (length others) ≤ least / 64 → AreTaken words others low least
    → IsLeastFree low (population_of words) (population_of others) least
least_past words others low least reached past taken =
    least_is words others low least reached (bit_past words least (omega arith)) (bit_past others least (omega arith)) taken

-- the words of both arrays as they stand, asked from their first bit on
pub whole_words : (words others : List ℕ) (low place : ℕ) → low ≤ place * 64 → IsTakenFrom words others low place (both_at words others place)
whole_words words others low place h = record {
  kept = λ i inside from. refl;
  filled = λ i inside under. absurd (omega arith);
}

-- the words of both arrays with all bits below an ordinal set
pub filled_words : (words others : List ℕ) (o : ℕ) → IsTakenFrom words others o (o / 64) (bit_or (both_at words others (o / 64)) (2 ^ (o % 64) - 1))
filled_words words others o =
    let word = both_at words others (o / 64) in record {
      kept = λ i inside from.
          let none = bit_at_ones_above (o % 64) i (omega arith) in
          let bit = bit_at-lt word i in
          let both = bit_at_or word (2 ^ (o % 64) - 1) i in
          omega arith;
      filled = λ i inside under.
          let one = bit_at_ones (o % 64) i (omega arith) in
          let bit = bit_at-lt word i in
          let both = bit_at_or word (2 ^ (o % 64) - 1) i in
          omega arith;
    }

-- not all ordinals are taken
pub not_all : (words others : List ℕ) (low high : ℕ) → FitOrdinals words → FitOrdinals others → AreTaken words others low high → low < 2 ^ 32 → high ≤ 2 ^ 32 → high < 2 ^ 32
not_all words others low high fit fit' taken under most =
    elim (cases_lt high (2 ^ 32)) [
      | inl below ↦ below
      | inr all ↦
          elim (taken (2 ^ 32 - 1) (omega arith) (omega arith)) [
            | inl one ↦ let small = fit.small (2 ^ 32 - 1) one in absurd (omega arith)
            | inr one ↦ let small = fit'.small (2 ^ 32 - 1) one in absurd (omega arith)
          ]
    ]

-- the least free number from a later one on, where all before it are taken
pub least_from_later : (words others : List ℕ) (low high least : ℕ) → low ≤ high → AreTaken words others low high → IsLeastFree high (population_of words) (population_of others) least
    → IsLeastFree low (population_of words) (population_of others) least
least_from_later words others low high least order taken is = record {
  free = is.free;
  other_free = is.other_free;
  reached = let reached = is.reached in omega arith;
  below = λ m from under.
      elim (cases_lt m high) [
        | inl early ↦
            elim (taken m from early) [
              | inl one ↦ inl (member_from_bit words m one)
              | inr one ↦ inr (member_from_bit others m one)
            ]
        | inr late ↦ is.below m late under
      ];
}
