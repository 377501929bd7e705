-- Sums over those elements of a list that a test takes, while the list is changed place by place.
use Rattle.std.proofs.Common.{◌≡◌, ◌≤◌, ◌<◌, ◌+◌, ◌∙◌, ℕ, suc, List, [], ◌∷◌, ◌++◌, Bool, true, false, cond, length, set, take, ap, arith, refl}
use Rattle.std.specs.Prelude.{filter, sum_by}
use Rattle.std.proofs.Math.Seq.{take-suc-set}
use Rattle.std.proofs.lemmas.List.Elements.{filter-append}
use Rattle.std.proofs.lemmas.List.Sums.{sum_by-append, sum_by-cons}

module _ {X : Type 0} (f : X → ℕ) (test : X → Bool) (xs : List X) (n : ℕ) (x : X) (inside : n < length xs) where
  taken : filter test (take (n + 1) (set xs n x)) ≡ filter test (take n xs) ++ cond (test x) (x ∷ []) []
  taken =
      let next : n + 1 ≡ suc n = omega arith in
      ap (λ (k : ℕ). filter test (take k (set xs n x))) next ∙ ap (filter test) (take-suc-set xs n x inside) ∙ filter-append test (take n xs) (x ∷ [])

  sum : sum_by f (filter test (take (n + 1) (set xs n x))) ≡ sum_by f (filter test (take n xs)) + sum_by f (cond (test x) (x ∷ []) [])
  sum = ap (sum_by f) taken ∙ sum_by-append f (filter test (take n xs)) (cond (test x) (x ∷ []) [])

  -- one more is counted, if the test takes it
  pub least_more : (before mid after : ℕ) → before + sum_by f (filter test (take n xs)) ≤ mid → mid ≤ after → (test x ≡ true → after ≡ mid + f x) → before + sum_by f (filter test (take (n + 1) (set xs n x))) ≤ after
  least_more before mid after least later counts = by (test x) refl
    where
      by : (b : Bool) → test x ≡ b → before + sum_by f (filter test (take (n + 1) (set xs n x))) ≤ after
      by true takes =
          let here = ap (λ (b : Bool). sum_by f (cond b (x ∷ []) [])) takes in
          let one = sum_by-cons f x [] in
          let rose = counts takes in
          omega (arith, sum, here, one, rose, least)
      by false leaves =
          let here = ap (λ (b : Bool). sum_by f (cond b (x ∷ []) [])) leaves in
          omega (arith, sum, here, least, later)
