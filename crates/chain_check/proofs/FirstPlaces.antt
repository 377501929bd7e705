-- The first number of which a fact holds.
use Rattle.std.proofs.Common.{◌≡◌, inl, inr, ℕ, List, [], ◌∷◌, Some, None, refl, suc}
use Rattle.std.specs.Prelude.{slice_get}
use Rattle.std.proofs.lemmas.Bool.{cases_order}
use Rattle.chain_check.specs.Compare.{IsFirst}

-- there is one
pub one_first : (Holds : ℕ → Type 0) (a b : ℕ) → IsFirst Holds a → IsFirst Holds b → a ≡ b
one_first Holds a b first other = elim (cases_order a b) [
  | inl same ↦ same
  | inr (inl less) ↦ absurd (other.least a less first.holds)
  | inr (inr more) ↦ absurd (first.least b more other.holds)
]

-- lists that have the same at each place
pub same_lists : {A : Type 0} (xs ys : List A) → ((k : ℕ) → slice_get xs k ≡ slice_get ys k) → xs ≡ ys
same_lists [] [] each = refl
same_lists [] (y ∷ ys) each = let first : None ≡ Some y = each 0 in absurd cc
same_lists (x ∷ xs) [] each = let first : Some x ≡ None = each 0 in absurd cc
same_lists (x ∷ xs) (y ∷ ys) each =
    let first : Some x ≡ Some y = each 0 in
    let one : x ≡ y = cc in
    let rest = same_lists xs ys (λ k. each (suc k)) in
    λ i. one i ∷ rest i
