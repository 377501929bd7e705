-- The most that one of some rows takes, read off how many of them take how much.
use Rattle.std.proofs.Common.{◌≡◌, ◌<◌, ◌≤◌, ◌⊎◌, ℕ, Bool, true, false, List, [], ◌∷◌, sum_by, nat_eq, inl, inr, refl, ap, arith}
use Rattle.std.specs.Prelude.{if◌then◌else◌}
use Rattle.std.proofs.lemmas.Bool.{cases_eq, cases_lt}
use Rattle.std.proofs.lemmas.List.Sums.{sum_by-cons}
use Rattle.kept_sums.specs.Sums.{most_by, one_if}

-- ---- one where two numbers are the same

pub one_same : (a b : ℕ) → a ≡ b → one_if a b ≡ 1
one_same a b same = let test : nat_eq a b ≡ true = grind arith in ap {B = ℕ} (λ (t : Bool). if t then 1 else 0) test

pub one_other : (a b : ℕ) → (a ≡ b → ⊥) → one_if a b ≡ 0
one_other a b apart = let test : nat_eq a b ≡ false = grind arith in ap {B = ℕ} (λ (t : Bool). if t then 1 else 0) test

-- ---- the most

module _ {X : Type 0} (f : X → ℕ) where
  -- what some have is no more than it
  some_below : (n : ℕ) (xs : List X) → 0 < sum_by (λ x. one_if (f x) n) xs → n ≤ most_by f xs
  some_below n [] some = absurd (omega (arith, some))
  some_below n (x ∷ xs) some =
      elim (cases_eq (f x) n) [
        | inl same ↦ omega (arith, same)
        | inr apart ↦
            let here = one_other (f x) n apart in
            let step = sum_by-cons (λ y. one_if (f y) n) x xs in
            let rest = some_below n xs (omega (arith, some, step, here)) in
            omega (arith, rest)
      ]

  -- where none has more, it is no more
  none_above : (n : ℕ) (xs : List X) → ((k : ℕ) → n < k → sum_by (λ x. one_if (f x) k) xs ≡ 0) → most_by f xs ≤ n
  none_above n [] none = omega arith
  none_above n (x ∷ xs) none =
      let rest = none_above n xs (λ k more. (let total = none k more in let step = sum_by-cons (λ y. one_if (f y) k) x xs in omega (arith, total, step))) in
      elim (cases_lt n (f x)) [
        | inl more ↦ absurd (let total = none (f x) more in let step = sum_by-cons (λ y. one_if (f y) (f x)) x xs in let here = one_same (f x) (f x) refl in omega (arith, total, step, here))
        | inr few ↦ omega (arith, rest, few)
      ]

  pub most_is : (n : ℕ) (xs : List X) → ((k : ℕ) → n < k → sum_by (λ x. one_if (f x) k) xs ≡ 0) → (n ≡ 0) ⊎ (0 < sum_by (λ x. one_if (f x) n) xs) → n ≡ most_by f xs
  most_is n xs none (inl is) = let high = none_above n xs none in omega (arith, high, is)
  most_is n xs none (inr some) = let high = none_above n xs none in let low = some_below n xs some in omega (arith, high, low)
