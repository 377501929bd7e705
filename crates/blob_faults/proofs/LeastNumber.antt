-- Where something holds of a number, that there is no least number of which it does cannot be.
use Rattle.std.proofs.Common.{◌<◌, ℕ, zero, suc, arith}

module _ (P : ℕ → Type 0) (none : (t : ℕ) → P t → ((u : ℕ) → u < t → P u → ⊥) → ⊥) where
  none_below : (bound t : ℕ) → t < bound → P t → ⊥
  none_below zero t below p = absurd (omega (arith, below))
  none_below (suc bound) t below p = none t p (λ u less q. none_below bound u (omega (arith, below, less)) q)

  -- What has no least number holds of none.
  pub no_number : (t : ℕ) → P t → ⊥
  no_number t p = none_below (suc t) t (omega arith) p
