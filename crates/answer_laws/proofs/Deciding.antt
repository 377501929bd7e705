-- What holds or does not, where that it does neither cannot be.
use Rattle.std.proofs.Common.{◌≡◌, ◌<◌, ◌⊎◌, ℕ, zero, suc, inl, inr, subst, arith}
use Rattle.std.proofs.lemmas.Bool.{cases_lt}

pub decide : (P : Type 0) → (P ⊎ (P → ⊥) → ⊥) → ⊥
decide P either = either (inr (λ p. either (inl p)))

-- that it neither holds of all numbers below a bound nor is one of them the first of which it does not cannot be
pub all_or_first : (P : ℕ → Type 0) (bound : ℕ) → (((n : ℕ) → n < bound → P n) → ⊥) → ((n : ℕ) → n < bound → (P n → ⊥) → ((earlier : ℕ) → earlier < n → P earlier) → ⊥) → ⊥
all_or_first P zero all first = all (λ n below. absurd (omega (arith, below)))
all_or_first P (suc bound) all first = all_or_first P bound (λ before. decide (P bound) (λ either. elim either [
  | inl here ↦ all (λ n below. elim (cases_lt n bound) [
    | inl less ↦ before n less
    | inr past ↦ (let is : bound ≡ n = omega (arith, below, past) in subst P is here)
  ])
  | inr never ↦ first bound (omega arith) never before
])) (λ n below. first n (omega (arith, below)))
