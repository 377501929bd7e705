-- Lemmas on the populations of word arrays.
use Rattle.std.proofs.Common.{◌≡◌, ◌↔◌, ℕ, ◌+◌, ◌-◌, ◌*◌, ◌/◌, ◌%◌, ◌^◌, ◌<◌, ◌≤◌, suc, Bool, true, false, List, [], Option, Some, None, length, get_or, set, refl, sym, ap, ◌∙◌, subst, inl, inr, arith, eqb, min, w64}
use Rattle.std.specs.Int.{bit_at, trailing_zeros}
use Rattle.std.specs.Int.Bits.{bit_and, bit_or}
use Rattle.std.specs.Int.Count.{count_leading_zeros}
use Rattle.std.specs.Prelude.{Contains}
use Rattle.std.specs.List.{range_with_len}
use Rattle.std.specs.List.Sorted.{IsStrictlyIncreasing}
use Rattle.std.proofs.lemmas.Bool.{eq-eqb, ne_eqb, eqb-true, cases_lt, cases_eq}
use Rattle.std.proofs.lemmas.List.{get_or_past, get_or-set_same, get_or-set_other}
use Rattle.std.proofs.lemmas.List.Kept.{IsStrictlyIncreasing-filter}
use Rattle.std.proofs.lemmas.Nat.{div-mul-add, mod-mul-add, leading_top, le-div, shr_below, pow_pos}
use Rattle.std.proofs.Math.Nat.{one-mul}
use Rattle.std.proofs.Math.Numerals.{one-add}
use Rattle.std.proofs.Math.ListN.{length-set}
use Rattle.std.proofs.lemmas.List.Elements.{Contains-get_or}
use Rattle.std.proofs.lemmas.Nat.Bits.{bit_at-zero, bit_at-lt, bit_at_and, bit_at_above, bit_at_mask_inside, bit_at_mask_below, bit_at-trailing_zeros, bit_at_set_same, bit_at_set_other, ones_shl, shr_and_one}
use Rattle.ordinal_set.specs.Ordinals.{AreOrdinals, with_ordinal, bound_of, IsNextMember, TellsNext}
use Rattle.ordinal_set.specs.Population.{has_bit, population_of, FitOrdinals}
use Rattle.ordinal_set.proofs.Members.{passes-from_filter, Contains-kept, rising-range, Contains-range, same_rising, bound_of-above, bound_of-le, rising-with_ordinal, Contains-with_ordinal_cases, Contains-with_ordinal_itself, Contains-with_ordinal_kept}

-- ---- members and bits

bit_inside : (words : List ℕ) (o : ℕ) → has_bit words o ≡ true → o < 64 * length words
unfolding has_bit
bit_inside words o h =
    elim (cases_lt (o / 64) (length words)) [
      | inl inside ↦ omega arith
      | inr past ↦
          let one = eqb-true (bit_at (get_or words (o / 64) 0) (o % 64)) 1 h in
          let none : bit_at (get_or words (o / 64) 0) (o % 64) ≡ 0 =
          ap (λ w. bit_at w (o % 64)) (get_or_past words (o / 64) 0 past) ∙ bit_at-zero (o % 64) in
          absurd (omega arith)
    ]

pub bit_from_member : (words : List ℕ) (o : ℕ) → Contains (population_of words) o → has_bit words o ≡ true
unfolding population_of
bit_from_member words o h = passes-from_filter (has_bit words) (range_with_len 0 (64 * length words)) o h

pub member_from_bit : (words : List ℕ) (o : ℕ) → has_bit words o ≡ true → Contains (population_of words) o
unfolding population_of
member_from_bit words o h =
    Contains-kept (has_bit words) (range_with_len 0 (64 * length words)) o (Contains-range (64 * length words) o (bit_inside words o h)) h

pub rising-population : (words : List ℕ) → IsStrictlyIncreasing (population_of words)
unfolding population_of
rising-population words = IsStrictlyIncreasing-filter (has_bit words) (range_with_len 0 (64 * length words)) (rising-range 0 (64 * length words))

pub ordinals-population : (words : List ℕ) → FitOrdinals words → AreOrdinals (population_of words)
ordinals-population words fit = record {
  rising = rising-population words;
  small =
      λ k d within.
      let o = get_or (population_of words) k d in
      fit.small o (bit_from_member words o (Contains-get_or (population_of words) k d within));
}

pub fit_few : (words : List ℕ) → length words < 2 ^ 26 → FitOrdinals words
fit_few words few = record {
  few = omega arith;
  small = λ o bit. let inside = bit_inside words o bit in omega arith;
}

pub fit_none : FitOrdinals []
fit_none = fit_few [] (omega arith)

pub population-none : population_of [] ≡ []
unfolding population_of
population-none = refl

-- ---- one bit, by its word and its place in the word

pub set_bit : (words : List ℕ) (o : ℕ) → bit_at (get_or words (o / 64) 0) (o % 64) ≡ 1 → has_bit words o ≡ true
unfolding has_bit
set_bit words o h = eq-eqb (bit_at (get_or words (o / 64) 0) (o % 64)) 1 h

pub clear_bit : (words : List ℕ) (o : ℕ) → bit_at (get_or words (o / 64) 0) (o % 64) ≡ 0 → has_bit words o ≡ false
unfolding has_bit
clear_bit words o h = ne_eqb (bit_at (get_or words (o / 64) 0) (o % 64)) 1 (λ one. absurd (omega arith))

-- a word's bit, as the code reads it
pub bit_read : (words : List ℕ) (o : ℕ) → eqb (bit_and (get_or words (o / 64) 0 / 2 ^ (o % 64)) 1) 1 ≡ has_bit words o
unfolding has_bit
bit_read words o = ap (λ b. eqb b 1) (shr_and_one (get_or words (o / 64) 0) (o % 64))

pub bit_past : (words : List ℕ) (o : ℕ) → length words ≤ o / 64 → has_bit words o ≡ false
bit_past words o past =
    clear_bit words o (ap (λ w. bit_at w (o % 64)) (get_or_past words (o / 64) 0 past) ∙ bit_at-zero (o % 64))

-- whether an ordinal is a member is its bit
pub member_by_bit : (words : List ℕ) (o : ℕ) (bit : Bool) → bit ≡ has_bit words o → (bit ≡ true) ↔ Contains (population_of words) o
member_by_bit words o bit is = (λ one. member_from_bit words o (sym is ∙ one), λ member. is ∙ bit_from_member words o member)

-- no bit is set from one ordinal up to another
abbrev pub AreClear : List ℕ → ℕ → ℕ → Type 0
AreClear words low high = (o : ℕ) → low ≤ o → o < high → has_bit words o ≡ false

-- ---- the next member

next_is : (words : List ℕ) (low next : ℕ) → has_bit words next ≡ true → low ≤ next → AreClear words low next → IsNextMember low (population_of words) next
next_is words low next bit from clear = record {
  member = member_from_bit words next bit;
  from = from;
  least = λ o h reached.
      elim (cases_lt o next) [
        | inl before ↦ let one = bit_from_member words o h in let none = clear o reached before in absurd cc
        | inr after ↦ after
      ];
}

pub next_none : (words : List ℕ) (low : ℕ) → AreClear words low (64 * length words) → TellsNext low (population_of words) None
next_none words low clear o h =
    let one = bit_from_member words o h in
    elim (cases_lt o low) [
      | inl before ↦ before
      | inr after ↦ let none = clear o after (bit_inside words o one) in absurd cc
    ]

-- a word whose lower bits may be cut off has the bits of the array's word from `low` on
pub record IsWordFrom (words : List ℕ) (low place word : ℕ) : Type 0 where
  pub kept : (i : ℕ) → i < 64 → low ≤ place * 64 + i → bit_at word i ≡ bit_at (get_or words place 0) i
  pub cut : (i : ℕ) → i < 64 → place * 64 + i < low → bit_at word i ≡ 0

-- the next member is the lowest bit of the first word that has one
pub next_in_word : (words : List ℕ) (low place word : ℕ) → 0 < word → word < 2 ^ 64 → IsWordFrom words low place word → AreClear words low (place * 64)
    → IsNextMember low (population_of words) (place * 64 + trailing_zeros w64 word)
next_in_word words low place word some fits is clear =
    let lowest = bit_at-trailing_zeros w64 word some fits in
    let zeros = trailing_zeros w64 word in
    let next = place * 64 + zeros in
    let inside : zeros < 64 = lowest.0 in
    let from : low ≤ next =
    elim (cases_lt next low) [
      | inl before ↦ let none = is.cut zeros inside before in let one = lowest.1 in absurd (omega arith)
      | inr after ↦ after
    ] in
    let row : next / 64 ≡ place = div-mul-add place 64 zeros inside in
    let column : next % 64 ≡ zeros = mod-mul-add place 64 zeros inside in
    let bit : bit_at (get_or words (next / 64) 0) (next % 64) ≡ 1 =
    ap (λ k. bit_at (get_or words k 0) (next % 64)) row
    ∙ ap (λ k. bit_at (get_or words place 0) k) column
    ∙ sym (is.kept zeros inside from)
    ∙ lowest.1 in
    next_is words low next (set_bit words next bit) from (λ o reached before.
    elim (cases_lt o (place * 64)) [
      | inl earlier ↦ clear o reached earlier
      | inr here ↦
          let same : o / 64 ≡ place = omega arith in
          let at : o ≡ place * 64 + o % 64 = omega arith in
          let lower : o % 64 < zeros = omega arith in
          let none = lowest.2 (o % 64) lower in
          let kept = is.kept (o % 64) (omega arith) (omega arith) in
          clear_bit words o (ap (λ k. bit_at (get_or words k 0) (o % 64)) same ∙ sym kept ∙ none)
    ])

-- a word without a bit is passed over
pub clear_past_word : (words : List ℕ) (low place word : ℕ) → word ≡ 0 → IsWordFrom words low place word → AreClear words low (place * 64) → AreClear words low ((place + 1) * 64)
clear_past_word words low place word zero_word is clear o reached before =
    elim (cases_lt o (place * 64)) [
      | inl earlier ↦ clear o reached earlier
      | inr here ↦
          let same : o / 64 ≡ place = omega arith in
          let kept = is.kept (o % 64) (omega arith) (omega arith) in
          clear_bit words o (ap (λ k. bit_at (get_or words k 0) (o % 64)) same ∙ sym kept ∙ ap (λ w. bit_at w (o % 64)) zero_word ∙ bit_at-zero (o % 64))
    ]

-- a word as it stands, asked from its first bit on
pub whole_word : (words : List ℕ) (low place : ℕ) → low ≤ place * 64 → IsWordFrom words low place (get_or words place 0)
whole_word words low place h = record {
  kept = λ i inside from. refl;
  cut = λ i inside before. absurd (omega arith);
}

-- a word with the bits below an ordinal cut off
pub masked_word : (words : List ℕ) (o : ℕ) → IsWordFrom words o (o / 64) (bit_and (get_or words (o / 64) 0) ((2 ^ 64 - 1) * 2 ^ (o % 64) % 2 ^ 64))
masked_word words o =
    let word = get_or words (o / 64) 0 in
    let mask = (2 ^ 64 - 1) * 2 ^ (o % 64) % 2 ^ 64 in
    let high : mask ≡ 2 ^ 64 - 2 ^ (o % 64) = ones_shl 64 (o % 64) (omega arith) in
    record {
      kept = λ i inside from.
          let one : bit_at mask i ≡ 1 = ap (λ m. bit_at m i) high ∙ bit_at_mask_inside (o % 64) 64 i (omega arith) inside in
          let bit = bit_at-lt word i in
          bit_at_and word mask i ∙ ap (λ b. min (bit_at word i) b) one ∙ omega arith;
      cut = λ i inside before.
          let none : bit_at mask i ≡ 0 = ap (λ m. bit_at m i) high ∙ bit_at_mask_below (o % 64) 64 i (omega arith) in
          bit_at_and word mask i ∙ ap (λ b. min (bit_at word i) b) none ∙ omega arith;
    }

-- what a look-up from a later ordinal tells, where no bit is set before it
pub tells_earlier : (words : List ℕ) (low high : ℕ) (answer : Option ℕ) → low ≤ high → AreClear words low high → TellsNext high (population_of words) answer → TellsNext low (population_of words) answer
tells_earlier words low high None h clear tells =
    λ o member.
    let one = bit_from_member words o member in
    let below = tells o member in
    elim (cases_lt o low) [
      | inl before ↦ before
      | inr after ↦ let none = clear o after below in absurd cc
    ]
tells_earlier words low high (Some next) h clear tells = record {
  member = tells.member;
  from = let from = tells.from in omega arith;
  least = λ o member reached.
      let one = bit_from_member words o member in
      elim (cases_lt o high) [
        | inl before ↦ let none = clear o reached before in absurd cc
        | inr after ↦ tells.least o member after
      ];
}

-- ---- the bound

pub bound_is : (words : List ℕ) (bound : ℕ) → has_bit words bound ≡ true → AreClear words (bound + 1) (64 * length words) → bound_of (population_of words) ≡ bound + 1
bound_is words bound bit clear =
    let set' = population_of words in
    let above = bound_of-above set' bound (member_from_bit words bound bit) in
    let most : bound_of set' ≤ bound + 1 = bound_of-le set' (bound + 1) (next_none words (bound + 1) clear) in
    omega arith

pub bound_none : (words : List ℕ) → AreClear words 0 (64 * length words) → bound_of (population_of words) ≡ 0
bound_none words clear =
    let most : bound_of (population_of words) ≤ 0 = bound_of-le (population_of words) 0 (next_none words 0 clear) in
    omega arith

-- the highest bit of a number
top_bit : (n j : ℕ) → 2 ^ j ≤ n → n < 2 ^ suc j → bit_at n j ≡ 1
top_bit n j low high =
    let some : 1 ≤ n / 2 ^ j = le-div 1 n (2 ^ j) (pow_pos j) (subst (λ k. k ≤ n) (sym (one-mul (2 ^ j))) low) in
    let few : n / 2 ^ j < 2 ^ 1 = shr_below n 1 j (subst (λ k. n < 2 ^ k) (sym (one-add j)) high) in
    omega arith

-- the last word that has a bit, and its highest one
pub bound_in_word : (words : List ℕ) (place : ℕ) → 0 < get_or words place 0 → get_or words place 0 < 2 ^ 64 → AreClear words ((place + 1) * 64) (64 * length words)
    → (bound : ℕ) × (place * 64 + (64 - count_leading_zeros 64 (get_or words place 0)) ≡ bound + 1) × (has_bit words bound ≡ true) × AreClear words (bound + 1) (64 * length words)
bound_in_word words place some fits clear =
    let word = get_or words place 0 in
    let top = leading_top 64 word some fits in
    let j = top.0 in
    let zeros = top.1 in
    let under : j < 64 = omega arith in
    let row : (place * 64 + j) / 64 ≡ place = div-mul-add place 64 j under in
    let column : (place * 64 + j) % 64 ≡ j = mod-mul-add place 64 j under in
    let bit : bit_at (get_or words ((place * 64 + j) / 64) 0) ((place * 64 + j) % 64) ≡ 1 =
    ap (λ k. bit_at (get_or words k 0) ((place * 64 + j) % 64)) row
    ∙ ap (λ k. bit_at word k) column
    ∙ top_bit word j top.2 top.3 in (
      place * 64 + j,
      omega arith,
      set_bit words (place * 64 + j) bit,
      λ o from before.
          elim (cases_lt o ((place + 1) * 64)) [
            | inl here ↦
                let same : o / 64 ≡ place = omega arith in
                let past : suc j ≤ o % 64 = omega arith in
                clear_bit words o (ap (λ k. bit_at (get_or words k 0) (o % 64)) same ∙ bit_at_above word (suc j) (o % 64) top.3 past)
            | inr after ↦ clear o after before
          ],
    )

-- ---- one bit more

pub same_bit : (xs ys : List ℕ) (o : ℕ) → get_or xs (o / 64) 0 ≡ get_or ys (o / 64) 0 → has_bit xs o ≡ has_bit ys o
unfolding has_bit
same_bit xs ys o same = ap (λ w. eqb (bit_at w (o % 64)) 1) same

-- two word arrays that read alike have the same bits
pub same_bits : (xs ys : List ℕ) → ((k : ℕ) → get_or xs k 0 ≡ get_or ys k 0) → population_of xs ≡ population_of ys
same_bits xs ys same =
    let forth = λ (m : ℕ) (h : Contains (population_of xs) m). member_from_bit ys m (sym (same_bit xs ys m (same (m / 64))) ∙ bit_from_member xs m h) in
    let back = λ (m : ℕ) (h : Contains (population_of ys) m). member_from_bit xs m (same_bit xs ys m (same (m / 64)) ∙ bit_from_member ys m h) in
    same_rising (population_of xs) (population_of ys) (rising-population xs) (rising-population ys) forth back

-- the words with the bit of an ordinal set
abbrev pub words_with : List ℕ → ℕ → List ℕ
words_with words o = set words (o / 64) (bit_or (get_or words (o / 64) 0) (1 * 2 ^ (o % 64) % 2 ^ 64))

bit_put : (words : List ℕ) (o : ℕ) → o / 64 < length words → has_bit (words_with words o) o ≡ true
bit_put words o inside =
    let word = get_or words (o / 64) 0 in
    let new = bit_or word (1 * 2 ^ (o % 64) % 2 ^ 64) in
    set_bit (words_with words o) o (ap (λ w. bit_at w (o % 64)) (get_or-set_same words (o / 64) new 0 inside) ∙ bit_at_set_same w64 word (o % 64) (omega arith))

bit_left : (words : List ℕ) (o m : ℕ) → o / 64 < length words → (o ≡ m → ⊥) → has_bit (words_with words o) m ≡ has_bit words m
unfolding has_bit
bit_left words o m inside apart =
    let word = get_or words (o / 64) 0 in
    let new = bit_or word (1 * 2 ^ (o % 64) % 2 ^ 64) in
    let bits = elim (cases_eq (m / 64) (o / 64)) as (λ _. bit_at (get_or (words_with words o) (m / 64) 0) (m % 64) ≡ bit_at (get_or words (m / 64) 0) (m % 64)) [
      | inl same ↦
          let other : m % 64 ≡ o % 64 → ⊥ = λ e. apart (omega arith) in
          ap (λ k. bit_at (get_or (words_with words o) k 0) (m % 64)) same
          ∙ ap (λ w. bit_at w (m % 64)) (get_or-set_same words (o / 64) new 0 inside)
          ∙ bit_at_set_other w64 word (o % 64) (omega arith) (m % 64) other
          ∙ ap (λ k. bit_at (get_or words k 0) (m % 64)) (sym same)
      | inr other ↦ ap (λ w. bit_at w (m % 64)) (get_or-set_other words (o / 64) (m / 64) new 0 other)
    ] in
    ap (λ b. eqb b 1) bits

-- the population of the words with a bit set is the set with its ordinal put in
pub population-words_with : (words : List ℕ) (o : ℕ) → o / 64 < length words → population_of (words_with words o) ≡ with_ordinal o (population_of words)
population-words_with words o inside =
    same_rising
    (population_of (words_with words o))
    (with_ordinal o (population_of words))
    (rising-population (words_with words o))
    (rising-with_ordinal o (population_of words) (rising-population words))
    (λ m h.
    let bit = bit_from_member (words_with words o) m h in
    elim (cases_eq o m) [
      | inl same ↦ subst (λ n. Contains (with_ordinal o (population_of words)) n) same (Contains-with_ordinal_itself o (population_of words))
      | inr other ↦
          Contains-with_ordinal_kept o (population_of words) m (member_from_bit words m (sym (bit_left words o m inside other) ∙ bit))
    ])
    (λ m h.
    elim (cases_eq o m) [
      | inl same ↦ subst (λ n. Contains (population_of (words_with words o)) n) same (member_from_bit (words_with words o) o (bit_put words o inside))
      | inr other ↦
          elim (Contains-with_ordinal_cases o (population_of words) m h) [
            | inl old ↦ member_from_bit (words_with words o) m (bit_left words o m inside other ∙ bit_from_member words m old)
            | inr same ↦ absurd (other same)
          ]
    ])

-- words that read as words that fit do, and are not too many, fit
pub fit_alike : (old new : List ℕ) → FitOrdinals old → ((k : ℕ) → get_or new k 0 ≡ get_or old k 0) → length new ≤ 2 ^ 26 → FitOrdinals new
fit_alike old new fit same few = record {
  few = few;
  small = λ m bit. fit.small m (sym (same_bit new old m (same (m / 64))) ∙ bit);
}

-- the words with the bit of an ordinal set reach no further than the ordinals do
pub fit-words_with : (words : List ℕ) (o : ℕ) → FitOrdinals words → o < 2 ^ 32 - 1 → o / 64 < length words → FitOrdinals (words_with words o)
fit-words_with words o fit small inside = record {
  few = let few = fit.few in simp length-set (omega arith);
  small = λ m bit.
      elim (cases_eq o m) [
        | inl same ↦ omega arith
        | inr other ↦ fit.small m (sym (bit_left words o m inside other) ∙ bit)
      ];
}
