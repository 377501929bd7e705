-- Whether an ordinal stands in a list.
use Rattle.std.proofs.Common.{◌≡◌, ℕ, zero, suc, ◌⊎◌, inl, inr, List, [], ◌∷◌, arith}
use Rattle.std.specs.Prelude.{Contains}
use Rattle.std.proofs.lemmas.Bool.{cases_eq}

lacking : (r o : ℕ) (removed : List ℕ) → (Contains removed o → ⊥) → (r ≡ o → ⊥) → Contains (r ∷ removed) o → ⊥
lacking r o removed none differs (zero, inside, is) = differs is
lacking r o removed none differs (suc k, inside, is) = none (k, omega arith, is)

pub has_or : (removed : List ℕ) (o : ℕ) → Contains removed o ⊎ (Contains removed o → ⊥)
has_or [] o = inr (λ at. omega (arith, at.1))
has_or (r ∷ removed) o = elim (cases_eq r o) [
  | inl same ↦ inl (0, omega arith, same)
  | inr differs ↦ elim (has_or removed o) [
    | inl at ↦ inl (suc at.0, omega (arith, at.1), at.2)
    | inr lacks ↦ inr (lacking r o removed lacks differs)
  ]
]
