-- What a map has after an entry is put into it: that one under its key, and the others as before.
use Rattle.std.proofs.Common.{◌≡◌, ◌⊎◌, Bool, true, false, Some, inl, inr, refl, sym, ap, ◌∙◌}
use Rattle.std.specs.Prelude.{cond}
use Rattle.std.specs.declared.cmp.Ordering.{Ordering}
use Rattle.std.specs.Ordering.{eq_by_cmp, is_eq}
use Rattle.std.specs.Cmp.{IsTotalOrder, tied_itself, Equal-is}
use Rattle.std.specs.FinMap.{FinMap, get, insert, get-insert, IsAntisymmetric}

module _ {K X : Type 0} {R : K → K → Ordering} (total : IsTotalOrder R) (same : IsAntisymmetric R) (m : FinMap R X) (k : K) (v : X) where
  tie : eq_by_cmp R k k ≡ true
  tie = ap is_eq (tied_itself total k)

  pub inserted : get (insert m k v) k ≡ Some v
  inserted = get-insert total m k v k ∙ ap (λ b. cond b (Some v) (get m k)) tie

  by_tie : (q : K) (b : Bool) → eq_by_cmp R q k ≡ b → ((q ≡ k) × (get (insert m k v) q ≡ Some v)) ⊎ ((q ≡ k → ⊥) × (get (insert m k v) q ≡ get m q))
  by_tie q true is = inl (same q k ((Equal-is (R q k)).0 is), get-insert total m k v q ∙ ap (λ b. cond b (Some v) (get m q)) is)
  by_tie q false is =
      inr (
        λ e. (let no : true ≡ false = sym tie ∙ ap (λ x. eq_by_cmp R x k) (sym e) ∙ is in absurd cc),
        get-insert total m k v q ∙ ap (λ b. cond b (Some v) (get m q)) is,
      )

  -- under each key there is what was put, or what was there before
  pub here_or_beside : (q : K) → ((q ≡ k) × (get (insert m k v) q ≡ Some v)) ⊎ ((q ≡ k → ⊥) × (get (insert m k v) q ≡ get m q))
  here_or_beside q = by_tie q (eq_by_cmp R q k) refl

  pub beside : (q : K) → (q ≡ k → ⊥) → get (insert m k v) q ≡ get m q
  beside q apart = elim (here_or_beside q) [ inl here ↦ absurd (apart here.0) | inr other ↦ other.1 ]
