-- Lemmas on sets with members taken out.
use Rattle.std.proofs.Common.{◌≡◌, ℕ, ◌+◌, ◌-◌, ◌*◌, ◌/◌, ◌%◌, ◌^◌, ◌<◌, ◌≤◌, length, get_or, set, w64, Bool, true, false, List, [], ◌∷◌, refl, sym, ap, ◌∙◌, subst, inl, inr, arith, eqb}
use Rattle.std.specs.Prelude.{◌==◌, ◌&&◌, not, filter, Contains}
use Rattle.std.specs.List.{list_any, range_with_len}
use Rattle.std.specs.Int.{bit_at, bit_not}
use Rattle.std.specs.Int.Bits.{bit_and}
use Rattle.std.proofs.lemmas.List.{get_or-set_same, get_or-set_other}
use Rattle.std.proofs.lemmas.Nat.Bits.{bit_at_clear_same, bit_at_clear_other}
use Rattle.std.proofs.lemmas.Bool.{cases_Bool, cases_eq, eq-eqb, ne_eqb}
use Rattle.std.proofs.lemmas.List.Elements.{All-filter, filter_agree}
use Rattle.std.proofs.lemmas.List.Kept.{IsStrictlyIncreasing-filter}
use Rattle.ordinal_set.specs.Ordinals.{AreOrdinals, without_ordinal, lacking}
use Rattle.ordinal_set.specs.Population.{has_bit, population_of, FitOrdinals}
use Rattle.ordinal_set.proofs.Populations.{clear_bit, bit_past}
use Rattle.ordinal_set.proofs.Members.{Contains-filter, Contains-kept, passes-from_filter, first_or_other, here, there, no_member}

-- two filters, one after the other
filter_both : (p q : ℕ → Bool) (xs : List ℕ) → filter (λ x. p x && q x) xs ≡ filter q (filter p xs)
filter_both p q [] = refl
filter_both p q (x ∷ xs) =
    let rest = filter_both p q xs in
    elim (cases_Bool (p x)) [
      | inl kept ↦ rw (kept, rest) refl
      | inr gone ↦ rw (gone, rest) refl
    ]

-- ---- one ordinal taken out

first_true : (a b : Bool) → (a && b) ≡ true → a ≡ true
first_true true b h = refl
first_true false b h = h

pub population_without : (old new : List ℕ) (o : ℕ) → length new ≡ length old → ((m : ℕ) → has_bit new m ≡ (has_bit old m && not (m == o)))
    → population_of new ≡ without_ordinal o (population_of old)
unfolding without_ordinal population_of
population_without old new o same bits =
    ap (λ len. filter (has_bit new) (range_with_len 0 (64 * len))) same
    ∙ filter_agree (has_bit new) (λ m. has_bit old m && not (m == o)) bits (range_with_len 0 (64 * length old))
    ∙ filter_both (has_bit old) (λ m. not (m == o)) (range_with_len 0 (64 * length old))

pub fit_without : (old new : List ℕ) (o : ℕ) → FitOrdinals old → length new ≡ length old → ((m : ℕ) → has_bit new m ≡ (has_bit old m && not (m == o))) → FitOrdinals new
fit_without old new o fit same bits = record {
  few = let few = fit.few in omega arith;
  small = λ m bit. fit.small m (first_true (has_bit old m) (not (m == o)) (sym (bits m) ∙ bit));
}

-- a bit that is cleared where the numbers are one, and else as it was
pub bit_without : (new old : Bool) (m o : ℕ) → (m ≡ o → new ≡ false) → ((m ≡ o → ⊥) → new ≡ old) → new ≡ (old && not (m == o))
bit_without new old m o cleared kept =
    elim (cases_eq m o) [
      | inl same ↦
          let test : (m == o) ≡ true = eq-eqb m o same in
          let none : new ≡ false = cleared same in
          elim (cases_Bool old) [
            | inl one ↦ rw (test, none, one) refl
            | inr zero ↦ rw (test, none, zero) refl
          ]
      | inr other ↦
          let test : (m == o) ≡ false = ne_eqb m o other in
          let as_was : new ≡ old = kept other in
          elim (cases_Bool old) [
            | inl one ↦ rw (test, as_was, one) refl
            | inr zero ↦ rw (test, as_was, zero) refl
          ]
    ]

-- the words with the bit of an ordinal cleared
pub bits_cleared : (words : List ℕ) (o : ℕ) → o / 64 < length words → (m : ℕ)
    → has_bit (set words (o / 64) (bit_and (get_or words (o / 64) 0) (bit_not w64 (1 * 2 ^ (o % 64) % 2 ^ 64)))) m ≡ (has_bit words m && not (m == o))
unfolding has_bit
bits_cleared words o inside m =
    let word = get_or words (o / 64) 0 in
    let new = bit_and word (bit_not w64 (1 * 2 ^ (o % 64) % 2 ^ 64)) in
    let words' = set words (o / 64) new in
    bit_without (has_bit words' m) (has_bit words m) m o
    (λ same. ap (has_bit words') same ∙ clear_bit words' o (ap (λ w. bit_at w (o % 64)) (get_or-set_same words (o / 64) new 0 inside) ∙ bit_at_clear_same w64 word (o % 64) (omega arith)))
    (λ apart.
    let bits = elim (cases_eq (m / 64) (o / 64)) as (λ _. bit_at (get_or words' (m / 64) 0) (m % 64) ≡ bit_at (get_or words (m / 64) 0) (m % 64)) [
      | inl same ↦
          let other : m % 64 ≡ o % 64 → ⊥ = λ e. apart (omega arith) in
          ap (λ k. bit_at (get_or words' k 0) (m % 64)) same
          ∙ ap (λ w. bit_at w (m % 64)) (get_or-set_same words (o / 64) new 0 inside)
          ∙ bit_at_clear_other w64 word (o % 64) (omega arith) (m % 64) (omega arith) other
          ∙ ap (λ k. bit_at (get_or words k 0) (m % 64)) (sym same)
      | inr other ↦ ap (λ w. bit_at w (m % 64)) (get_or-set_other words (o / 64) (m / 64) new 0 other)
    ] in
    ap (λ b. eqb b 1) bits)

-- a number past the words has no bit to clear
pub bits_past : (words : List ℕ) (o : ℕ) → length words ≤ o / 64 → (m : ℕ) → has_bit words m ≡ (has_bit words m && not (m == o))
bits_past words o past m = bit_without (has_bit words m) (has_bit words m) m o (λ same. ap (has_bit words) same ∙ bit_past words o past) (λ apart. refl)

pub member_without : (set : List ℕ) (o m : ℕ) → Contains (without_ordinal o set) m → Contains set m × (m ≡ o → ⊥)
unfolding without_ordinal
member_without set o m h = (
  Contains-filter (λ n. not (n == o)) set m h,
  (λ same. let passes = passes-from_filter (λ n. not (n == o)) set m h in let test = ap not (eq-eqb m o same) in absurd cc),
)

pub without_member : (set : List ℕ) (o m : ℕ) → Contains set m → (m ≡ o → ⊥) → Contains (without_ordinal o set) m
unfolding without_ordinal
without_member set o m here apart = Contains-kept (λ n. not (n == o)) set m here (ap not (ne_eqb m o apart))

-- ---- the members that another set lacks

pub any_member : (other : List ℕ) (m : ℕ) → Contains other m → list_any (λ n. n == m) other ≡ true
any_member [] m h = absurd (no_member m h)
any_member (x ∷ rest) m h =
    elim (cases_Bool (x == m)) [
      | inl same ↦ rw same refl
      | inr other ↦
          elim (first_or_other x rest m h) [
            | inl is ↦ let test = eq-eqb x m is in absurd cc
            | inr behind ↦ rw other (any_member rest m behind)
          ]
    ]

pub no_member_any : (other : List ℕ) (m : ℕ) → (Contains other m → ⊥) → list_any (λ n. n == m) other ≡ false
no_member_any [] m none = refl
no_member_any (x ∷ rest) m none =
    let test : (x == m) ≡ false = ne_eqb x m (λ e. none (subst (λ y. Contains (x ∷ rest) y) e (here x rest))) in
    rw test (no_member_any rest m (λ h. none (there x rest m h)))

pub ordinals-lacking : (set other : List ℕ) → AreOrdinals set → AreOrdinals (lacking set other)
unfolding lacking
ordinals-lacking set other are = record {
  rising = IsStrictlyIncreasing-filter (λ m. not (list_any (λ n. n == m) other)) set are.rising;
  small = All-filter (λ m. not (list_any (λ n. n == m) other)) (λ o. o < 2 ^ 32 - 1) set are.small;
}
