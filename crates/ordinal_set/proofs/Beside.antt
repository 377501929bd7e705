-- Lemmas on the words of one array without the bits of another one.
use Rattle.std.proofs.Common.{◌≡◌, ℕ, zero, suc, ◌-◌, ◌/◌, ◌%◌, ◌^◌, ◌<◌, Bool, true, false, List, [], ◌∷◌, length, drop, get_or, refl, sym, ap, ◌∙◌, subst, inl, inr, arith, min, w64}
use Rattle.std.specs.Prelude.{Contains, not, ◌==◌, ◌⊎◌}
use Rattle.std.specs.List.{list_any}
use Rattle.std.specs.List.Sorted.{IsStrictlyIncreasing}
use Rattle.std.specs.Int.{bit_at, bit_not}
use Rattle.std.specs.Int.Bits.{bit_and, and_zero_l}
use Rattle.std.proofs.lemmas.Bool.{cases_Bool, cases_lt, eqb-true}
use Rattle.std.proofs.lemmas.List.Kept.{IsStrictlyIncreasing-filter}
use Rattle.std.proofs.lemmas.Nat.Bits.{bit_at-lt, bit_at_and, bit_at_not}
use Rattle.ordinal_set.specs.Ordinals.{lacking}
use Rattle.ordinal_set.specs.Population.{has_bit, population_of}
use Rattle.ordinal_set.proofs.Lacking.{any_member, no_member_any}
use Rattle.ordinal_set.proofs.Members.{Contains-filter, Contains-kept, here, passes-from_filter, same_rising, there}
use Rattle.ordinal_set.proofs.Populations.{bit_from_member, member_from_bit, rising-population, set_bit}

-- ---- members of one set that another one lacks

pub lacking_member : (set other : List ℕ) (m : ℕ) → Contains (lacking set other) m → Contains set m × (Contains other m → ⊥)
unfolding lacking
lacking_member set other m h = (
  Contains-filter (λ n. not (list_any (λ k. k == n) other)) set m h,
  (λ there. let passes = passes-from_filter (λ n. not (list_any (λ k. k == n) other)) set m h in let any = any_member other m there in absurd (no_pass (list_any (λ k. k == m) other) any passes)),
)
  where
    no_pass : (b : Bool) → b ≡ true → not b ≡ true → ⊥
    no_pass true e h = absurd cc
    no_pass false e h = absurd cc

pub member_lacking : (set other : List ℕ) (m : ℕ) → Contains set m → (Contains other m → ⊥) → Contains (lacking set other) m
unfolding lacking
member_lacking set other m here none = Contains-kept (λ n. not (list_any (λ k. k == n) other)) set m here (ap not (no_member_any other m none))

pub is_member : (set : List ℕ) (m : ℕ) → Contains set m ⊎ (Contains set m → ⊥)
is_member set m =
    elim (cases_Bool (list_any (λ n. n == m) set)) [
      | inl any ↦ inl (from_any set any)
      | inr none ↦ inr (λ h. let any = any_member set m h in absurd cc)
    ]
  where
    from_any : (xs : List ℕ) → list_any (λ n. n == m) xs ≡ true → Contains xs m
    from_any [] any = absurd cc
    from_any (x ∷ xs) any =
        elim (cases_Bool (x == m)) [
          | inl same ↦ subst (λ y. Contains (x ∷ xs) y) (eqb-true x m same) (here x xs)
          | inr other ↦ let rest : list_any (λ n. n == m) (x ∷ xs) ≡ list_any (λ n. n == m) xs = rw other refl in there x xs m (from_any xs (sym rest ∙ any))
        ]

pub rising_lacking : (words others : List ℕ) → IsStrictlyIncreasing (lacking (population_of words) (population_of others))
unfolding lacking
rising_lacking words others = IsStrictlyIncreasing-filter (λ m. not (list_any (λ n. n == m) (population_of others))) (population_of words) (rising-population words)

-- ---- the words without the others' bits

abbrev pub beside : List ℕ → List ℕ → List ℕ
beside [] others = []
beside (word ∷ words) others = bit_and word (bit_not w64 (get_or others 0 0)) ∷ beside words (drop 1 others)

pub length_beside : (words others : List ℕ) → length (beside words others) ≡ length words
length_beside [] others = refl
length_beside (w ∷ words) others = ap suc (length_beside words (drop 1 others))

next_read : (others : List ℕ) (k : ℕ) → get_or (drop 1 others) k 0 ≡ get_or others (suc k) 0
next_read [] k = refl
next_read (o ∷ others) k = refl

pub beside_read : (words others : List ℕ) (k : ℕ) → get_or (beside words others) k 0 ≡ bit_and (get_or words k 0) (bit_not w64 (get_or others k 0))
beside_read [] others k = sym (and_zero_l (bit_not w64 (get_or others k 0)))
beside_read (w ∷ words) others zero = refl
beside_read (w ∷ words) others (suc k) = beside_read words (drop 1 others) k ∙ ap (λ o. bit_and (get_or words k 0) (bit_not w64 o)) (next_read others k)

module _ (words others : List ℕ) (fits : (k : ℕ) → get_or others k 0 < 2 ^ 64) (m : ℕ) where
  one_of : (bits : List ℕ) → has_bit bits m ≡ true → bit_at (get_or bits (m / 64) 0) (m % 64) ≡ 1
  unfolding has_bit
  one_of bits h = eqb-true (bit_at (get_or bits (m / 64) 0) (m % 64)) 1 h

  both_bits : bit_at (get_or (beside words others) (m / 64) 0) (m % 64) ≡ min (bit_at (get_or words (m / 64) 0) (m % 64)) (1 - bit_at (get_or others (m / 64) 0) (m % 64))
  both_bits =
      ap (λ w. bit_at w (m % 64)) (beside_read words others (m / 64))
      ∙ bit_at_and (get_or words (m / 64) 0) (bit_not w64 (get_or others (m / 64) 0)) (m % 64)
      ∙ ap (λ b. min (bit_at (get_or words (m / 64) 0) (m % 64)) b) (bit_at_not w64 (get_or others (m / 64) 0) (m % 64) (fits (m / 64)) (omega arith))

  from_beside : has_bit (beside words others) m ≡ true → (has_bit words m ≡ true) × (has_bit others m ≡ true → ⊥)
  from_beside h =
      let one = one_of (beside words others) h in
      let both = both_bits in
      let first = bit_at-lt (get_or words (m / 64) 0) (m % 64) in (
        set_bit words m (omega arith),
        (λ there. let other = one_of others there in absurd (omega arith)),
      )

  to_beside : has_bit words m ≡ true → (has_bit others m ≡ true → ⊥) → has_bit (beside words others) m ≡ true
  to_beside h none =
      let one = one_of words h in
      let both = both_bits in
      let bit = bit_at-lt (get_or others (m / 64) 0) (m % 64) in
      elim (cases_lt (bit_at (get_or others (m / 64) 0) (m % 64)) 1) [
        | inl zero_bit ↦ set_bit (beside words others) m (omega arith)
        | inr one_bit ↦ absurd (none (set_bit others m (omega arith)))
      ]

-- their members are those that the other set lacks
pub population_beside : (words others : List ℕ) → ((k : ℕ) → get_or others k 0 < 2 ^ 64) → population_of (beside words others) ≡ lacking (population_of words) (population_of others)
population_beside words others fits =
    same_rising
    (population_of (beside words others))
    (lacking (population_of words) (population_of others))
    (rising-population (beside words others))
    (rising_lacking words others)
    (λ m h.
    let bits = from_beside words others fits m (bit_from_member (beside words others) m h) in
    member_lacking (population_of words) (population_of others) m (member_from_bit words m bits.0) (λ there. bits.1 (bit_from_member others m there)))
    (λ m h.
    let is = lacking_member (population_of words) (population_of others) m h in
    member_from_bit (beside words others) m (to_beside words others fits m (bit_from_member words m is.0) (λ one. is.1 (member_from_bit others m one))))
