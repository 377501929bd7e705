-- Lemmas on places of a run, which are numbered round it.
use Rattle.std.proofs.Common.{◌≡◌, ℕ, ◌+◌, ◌-◌, ◌%◌, ◌<◌, ◌≤◌, ◌⊎◌, inl, inr, arith, ⊎_elim, ◌∙◌}
use Rattle.std.proofs.Math.Nat.{mod-eq_of_lt, mod-eq-sub-mod}
use Rattle.std.proofs.lemmas.Bool.{cases_lt}

-- a place past the end is one less a round
pub round_cases : (size place steps : ℕ) → place < size → steps < size → ((place + steps < size) × ((place + steps) % size ≡ place + steps)) ⊎ ((size ≤ place + steps) × ((place + steps) % size ≡ place + steps - size))
round_cases size place steps a b =
    ⊎_elim
    (λ (less : place + steps < size). inl (less, mod-eq_of_lt less))
    (λ (more : size ≤ place + steps). let down : place + steps - size < size = omega arith in inr (more, mod-eq-sub-mod more ∙ mod-eq_of_lt down))
    (cases_lt (place + steps) size)

-- the place that the code computes, by the steps that are left before the end
pub round_is : (size place steps found : ℕ) → place < size → steps < size → (steps < size - place → found ≡ place + steps) → (size - place ≤ steps → found ≡ steps - (size - place))
    → (found ≡ (place + steps) % size) × (found < size)
round_is size place steps found a b less more =
    ⊎_elim
    (λ (below : (place + steps < size) × ((place + steps) % size ≡ place + steps)). let is : found ≡ place + steps = less (omega (arith, below.0)) in (omega (arith, below.1), omega (arith, below.0)))
    (λ (above : (size ≤ place + steps) × ((place + steps) % size ≡ place + steps - size)). let is : found ≡ steps - (size - place) = more (omega (arith, above.0)) in (omega (arith, above.0, above.1), omega (arith, above.0)))
    (round_cases size place steps a b)
