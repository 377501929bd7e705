-- Facts that hold or do not.
use Rattle.std.proofs.Common.{◌≡◌, ◌⊎◌, inl, inr, ⊎_elim, ℕ, zero, suc, ◌<◌, ◌≤◌, ◌^◌, List, [], ◌∷◌, length, Bool, true, false, refl, sym, ap, subst, arith}
use Rattle.std.specs.Prelude.{All}
use Rattle.std.specs.Int.{IsPowerOfTwo}
use Rattle.std.specs.List.{AllByRecursion}
use Rattle.std.proofs.Math.Nat.{pow-suc}
use Rattle.std.proofs.lemmas.Bool.{cases_eq, cases_lt, true≢false}
use Rattle.std.proofs.lemmas.List.Elements.{All-from_recursion, recursion_from_All}

abbrev pub HoldsOrNot : Type 0 → Type 0
HoldsOrNot P = P ⊎ (P → ⊥)

pub both_hold : {P Q : Type 0} → HoldsOrNot P → HoldsOrNot Q → HoldsOrNot (P × Q)
both_hold (inl p) (inl q) = inl (p, q)
both_hold (inl p) (inr other) = inr (λ h. other h.1)
both_hold (inr other) q = inr (λ h. other h.0)

pub equal_or_not : (m n : ℕ) → HoldsOrNot (m ≡ n)
equal_or_not m n = cases_eq m n

pub at_most_or_not : (m n : ℕ) → HoldsOrNot (m ≤ n)
at_most_or_not m n = elim (cases_lt n m) [ inl less ↦ inr (λ h. omega (arith, less, h)) | inr most ↦ inl most ]

pub below_or_not : (m n : ℕ) → HoldsOrNot (m < n)
below_or_not m n = elim (cases_lt m n) [ inl less ↦ inl less | inr most ↦ inr (λ h. omega (arith, most, h)) ]

pub true_or_not : (b : Bool) → HoldsOrNot (b ≡ true)
true_or_not true = inl refl
true_or_not false = inr (λ e. true≢false (sym e))

module _ {X : Type 0} (P : X → Type 0) (each : (x : X) → HoldsOrNot (P x)) where
  by_recursion : (xs : List X) → HoldsOrNot (AllByRecursion P xs)
  by_recursion [] = inl tt
  by_recursion (x ∷ xs) = both_hold (each x) (by_recursion xs)

  pub all_or_not : (xs : List X) → HoldsOrNot (All P xs)
  all_or_not xs = elim (by_recursion xs) [ inl all ↦ inl (All-from_recursion P xs all) | inr against ↦ inr (λ all. against (recursion_from_All P xs all)) ]

first_same : (x y : ℕ) (xs ys : List ℕ) → x ∷ xs ≡ y ∷ ys → (x ≡ y) × (xs ≡ ys)
first_same x y xs ys same = let head : x ≡ y = cc in let rest : xs ≡ ys = cc in (head, rest)

pub same_or_not : (xs ys : List ℕ) → HoldsOrNot (xs ≡ ys)
same_or_not [] [] = inl refl
same_or_not [] (y ∷ ys) = inr (λ same. omega (arith, ap length same))
same_or_not (x ∷ xs) [] = inr (λ same. omega (arith, ap length same))
same_or_not (x ∷ xs) (y ∷ ys) = elim (both_hold (equal_or_not x y) (same_or_not xs ys)) [
  | inl same ↦ inl (λ i. same.0 i ∷ same.1 i)
  | inr against ↦ inr (λ same. against (first_same x y xs ys same))
]

-- Of the numbers below one all hold, or not; and one holds, or none.
module _ (P : ℕ → Type 0) (each : (k : ℕ) → HoldsOrNot (P k)) where
  pub each_below : (n : ℕ) → HoldsOrNot ((k : ℕ) → k < n → P k)
  each_below zero = inl (λ k below. absurd (omega arith))
  each_below (suc n) = elim (both_hold (each n) (each_below n)) [
    | inl h ↦ inl (λ k below. ⊎_elim (λ (same : k ≡ n). subst P (sym same) h.0) (λ other. h.1 k (omega (arith, below, other))) (cases_eq k n))
    | inr against ↦ inr (λ all. against (all n (omega arith), λ k below. all k (omega (arith, below))))
  ]

  pub one_below : (n : ℕ) → HoldsOrNot ((k : ℕ) × (k < n) × P k)
  one_below zero = inr (λ h. omega (arith, h.1))
  one_below (suc n) = elim (each n) [
    | inl here ↦ inl (n, omega arith, here)
    | inr not_here ↦ elim (one_below n) [
      | inl h ↦ inl (h.0, omega (arith, h.1), h.2)
      | inr none ↦ inr (λ h. ⊎_elim (λ (same : h.0 ≡ n). not_here (subst P same h.2)) (λ other. none (h.0, omega (arith, h.1, other), h.2)) (cases_eq h.0 n))
    ]
  ]

below_power : (k : ℕ) → k < 2 ^ k
below_power zero = omega arith
below_power (suc k) = omega (arith, below_power k, pow-suc 2 k)

pub power_or_not : (n : ℕ) → HoldsOrNot (IsPowerOfTwo n)
power_or_not n = elim (one_below (λ k. n ≡ 2 ^ k) (λ k. equal_or_not n (2 ^ k)) n) [
  | inl h ↦ inl (h.0, h.2)
  | inr none ↦ inr (λ h. none (h.0, omega (arith, h.1, below_power h.0), h.1))
]
