-- The places of the entries of some rows, row by row.
use Rattle.std.proofs.Common.{◌≡◌, ◌↔◌, ℕ, ◌+◌, ◌<◌, ◌≤◌, ◌∙◌, Some, sym, ap, subst, inl, inr, arith, List, [], ◌∷◌, ◌++◌, length, get_or, take, drop}
use Rattle.std.specs.Prelude.{All, Contains}
use Rattle.std.proofs.lemmas.List.{drop_more, get_or-drop, length-drop, take_all, take_more}
use Rattle.std.proofs.lemmas.List.Elements.{All-drop, Contains-append_cases, Contains-append_left, Contains-append_right, Contains-push, Contains-push_cases}
use Rattle.key_index.proofs.Lists.{contains_none}
use Rattle.row_model.specs.Row.{Rises}
use Rattle.hol_paths.specs.declared.entries.Slot.{Slot}
use Rattle.hol_paths.specs.Groups.{AreGathered}
use Rattle.hol_paths.specs.Reached.{AreRisingOf}
use Rattle.hol_paths.specs.Slots.{AreLeaving, no_slot, owner_at, without_slots}
use Rattle.hol_paths.proofs.Leaving.{next_inside}

-- These are the places of the entries of some rows.
abbrev pub ArePlaces : List Slot → List ℕ → List ℕ → Type 0
ArePlaces slots rows places = (place : ℕ) → Contains places place ↔ ((owner : ℕ) × Contains rows owner × (owner_at slots place ≡ Some owner))

pub no_places : (slots : List Slot) (removed places : List ℕ) → places ≡ [] → ArePlaces slots (take 0 removed) places
no_places slots removed places none p = ((λ h. absurd (contains_none p (subst (λ l. Contains l p) none h))), (λ h. absurd (contains_none h.0 h.1)))

pub places_more : (slots : List Slot) (removed before after : List ℕ) (k : ℕ) → k < length removed → ArePlaces slots (take k removed) before → AreGathered (owner_at slots) (get_or removed k 0) before after
    → ArePlaces slots (take (k + 1) removed) after
places_more slots removed before after k below so_far gathered p =
    let row = get_or removed k 0 in
    let taken : take (k + 1) removed ≡ take k removed ++ row ∷ [] = take_more removed k 0 below in (
      (λ h. elim (Contains-append_cases before gathered.found p (subst (λ l. Contains l p) gathered.behind h)) [
        | inl was ↦ (let at = (so_far p).0 was in (at.0, subst (λ l. Contains l at.0) (sym taken) (Contains-append_left (take k removed) (row ∷ []) at.0 at.1), at.2))
        | inr new ↦ (row, subst (λ l. Contains l row) (sym taken) (Contains-push (take k removed) row), (gathered.are p).0 new)
      ]),
      (λ h. subst (λ l. Contains l p) (sym gathered.behind) (elim (Contains-push_cases (take k removed) row h.0 (subst (λ l. Contains l h.0) taken h.1)) [
        | inl was ↦ Contains-append_left before gathered.found p ((so_far p).1 (h.0, was, h.2))
        | inr e ↦ Contains-append_right before gathered.found p ((gathered.are p).1 (h.2 ∙ ap Some (sym e)))
      ])),
    )

pub all_places : (slots : List Slot) (removed places rising : List ℕ) (k : ℕ) → length removed ≤ k → ArePlaces slots (take k removed) places → AreRisingOf places rising → AreLeaving slots removed rising
all_places slots removed places rising k past are risen = record {
  rises = risen.rises;
  are = λ p. (
    (λ h. subst (λ l. (owner : ℕ) × Contains l owner × (owner_at slots p ≡ Some owner)) (take_all k removed past) ((are p).0 ((risen.same p).0 h))),
    (λ h. (risen.same p).1 ((are p).1 (subst (λ l. (owner : ℕ) × Contains l owner × (owner_at slots p ≡ Some owner)) (sym (take_all k removed past)) h))),
  );
}

-- ---- from the last place to the first

rises_drop : (n : ℕ) (xs : List ℕ) → Rises xs → Rises (drop n xs)
rises_drop n xs rises = λ i j d before within.
    let there : n + j < length xs = omega (arith, within, length-drop n xs) in
    omega (arith, rises (n + i) (n + j) d (omega (arith, before)) there, get_or-drop n xs i d, get_or-drop n xs j d)

module _ (slots : List Slot) (places : List ℕ) (rises : Rises places) (there : All (λ p. p < length slots) places) (k : ℕ) (below : k < length places) where
  ahead : drop k places ≡ get_or places k 0 ∷ drop (k + 1) places
  ahead = drop_more places k 0 below

  -- the next place to be taken is there
  pub next_there : get_or places k 0 < length (without_slots (drop (k + 1) places) slots)
  next_there = next_inside no_slot slots (get_or places k 0) (drop (k + 1) places)
      (subst (λ ps. Rises ps × All (λ p. p < length slots) ps) ahead (rises_drop k places rises, All-drop (λ p. p < length slots) k places there))

  pub next_taken : without_slots (get_or places k 0 ∷ drop (k + 1) places) slots ≡ without_slots (drop k places) slots
  next_taken = ap (λ ps. without_slots ps slots) (sym ahead)
