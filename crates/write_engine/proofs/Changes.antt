-- The types whose rows differ in the two states are found one after another.
use Rattle.std.proofs.Common.{◌≡◌, ℕ, zero, suc, ◌+◌, ◌<◌, ◌≤◌, ◌⊎◌, ◌↔◌, inl, inr, List, [], ◌∷◌, ◌++◌, length, get_or, map, refl, sym, ap, subst, ◌∙◌, arith}
use Rattle.std.specs.Prelude.{All, Contains}
use Rattle.std.specs.FinMap.{empty}
use Rattle.std.proofs.lemmas.List.Elements.{All-push, Contains-append_left, Contains-push, Contains-push_cases}
use Rattle.std.proofs.lemmas.List.Quantifiers.{all_pairs_push}
use Rattle.row_model.specs.Row.{Rises}
use Rattle.row_model.specs.Table.{RowMap}
use Rattle.ordinal_map.specs.States.{States}
use Rattle.write_engine.specs.Cycle.{rows_in}
use Rattle.write_engine.specs.Production.{AreChanged, current_of, previous_of}
use Rattle.write_engine.proofs.Puts.{rows_at}

abbrev Differs : List States → ℕ → Type 0
Differs maps t = ¬ (rows_in (current_of maps) t ≡ rows_in (previous_of maps) t)

-- those below a place
pub record ChangedBelow (maps : List States) (k : ℕ) (changed : List ℕ) : Type 0 where
  pub rising : Rises changed
  pub low : All (λ t. t < k) changed
  pub same : (t : ℕ) → Contains changed t ↔ ((t < k) × (¬ (rows_in (current_of maps) t ≡ rows_in (previous_of maps) t)))

rows_past : (read : States → RowMap) (maps : List States) (t : ℕ) → length maps ≤ t → rows_in (map read maps) t ≡ empty
rows_past read [] t past = refl
rows_past read (s ∷ maps) zero past = absurd (omega arith)
rows_past read (s ∷ maps) (suc t) past = rows_past read maps t (omega arith)

pub below_or : (t k : ℕ) → t < k + 1 → (t < k) ⊎ (k ≡ t)
below_or zero zero h = inr refl
below_or zero (suc k) h = inl (omega arith)
below_or (suc t) zero h = absurd (omega (arith, h))
below_or (suc t) (suc k) h = further (below_or t k (omega (arith, h)))
  where
    further : (t < k) ⊎ (k ≡ t) → (suc t < suc k) ⊎ (suc k ≡ suc t)
    further (inl a) = inl (omega (arith, a))
    further (inr e) = inr (ap suc e)

module _ (maps : List States) (k : ℕ) (changed : List ℕ) (s : States) (inside : k < length maps) (is : s ≡ get_or maps k s) (below : ChangedBelow maps k changed) where
  both : (read : States → RowMap) → rows_in (map read maps) k ≡ read s
  both read = rows_at read maps k s inside ∙ ap read (sym is)

  pub below_push : (¬ (s.current ≡ s.previous)) → ChangedBelow maps (k + 1) (changed ++ k ∷ [])
  below_push differs = record {
    rising = all_pairs_push (λ a b. a < b) changed k below.rising below.low;
    low = All-push (λ t. t < k + 1) changed k (λ i d within. omega (arith, below.low i d within)) (omega arith);
    same = λ t. (λ c. there t (Contains-push_cases changed k t c), λ h. among t h (below_or t k h.0));
  }
    where
      here : Differs maps k
      here same = differs (sym (both (λ s. s.current)) ∙ same ∙ both (λ s. s.previous))

      there : (t : ℕ) → Contains changed t ⊎ (k ≡ t) → (t < k + 1) × Differs maps t
      there t (inl c) = let old = (below.same t).0 c in (omega (arith, old.0), old.1)
      there t (inr e) = subst (λ u. (u < k + 1) × Differs maps u) e (omega arith, here)

      among : (t : ℕ) → (t < k + 1) × Differs maps t → (t < k) ⊎ (k ≡ t) → Contains (changed ++ k ∷ []) t
      among t h (inl low) = Contains-append_left changed (k ∷ []) t ((below.same t).1 (low, h.1))
      among t h (inr e) = subst (Contains (changed ++ k ∷ [])) e (Contains-push changed k)

  pub below_skip : s.current ≡ s.previous → ChangedBelow maps (k + 1) changed
  below_skip same = record {
    rising = below.rising;
    low = λ i d within. omega (arith, below.low i d within);
    same = λ t. (λ c. (let old = (below.same t).0 c in (omega (arith, old.0), old.1)), λ h. among t h (below_or t k h.0));
  }
    where
      among : (t : ℕ) → (t < k + 1) × Differs maps t → (t < k) ⊎ (k ≡ t) → Contains changed t
      among t h (inl low) = (below.same t).1 (low, h.1)
      among t h (inr e) = absurd (subst (Differs maps) (sym e) h.1 (both (λ s. s.current) ∙ same ∙ sym (both (λ s. s.previous))))

pub below_done : (maps : List States) (k : ℕ) (changed : List ℕ) → length maps ≤ k → ChangedBelow maps k changed → AreChanged (previous_of maps) (current_of maps) changed
below_done maps k changed past below = record {
  rising = below.rising;
  same = λ t. (λ c. ((below.same t).0 c).1, λ differs. within t differs (place t k));
}
  where
    place : (t k : ℕ) → (t < k) ⊎ (k ≤ t)
    place t zero = inr (omega arith)
    place zero (suc k) = inl (omega arith)
    place (suc t) (suc k) = further (place t k)
      where
        further : (t < k) ⊎ (k ≤ t) → (suc t < suc k) ⊎ (suc k ≤ suc t)
        further (inl a) = inl (omega (arith, a))
        further (inr a) = inr (omega (arith, a))

    within : (t : ℕ) → Differs maps t → (t < k) ⊎ (k ≤ t) → Contains changed t
    within t differs (inl low) = (below.same t).1 (low, differs)
    within t differs (inr high) = absurd (differs (rows_past (λ s. s.current) maps t (omega (arith, past, high)) ∙ sym (rows_past (λ s. s.previous) maps t (omega (arith, past, high)))))
