-- What a look-up of the spots of a history's steps tells of the steps.
use Rattle.std.proofs.Common.{◌≡◌, ◌<◌, ◌≤◌, ◌-◌, ◌^◌, inl, inr, ℕ, List, length, true, false, Option, Some, None, sym, ap, ◌∙◌, arith}
use Rattle.std.specs.Prelude.{slice_get}
use Rattle.std.specs.BTreeSet.{BTreeSet}
use Rattle.std.proofs.lemmas.Bool.{cases_lt, false≢true}
use Rattle.std.proofs.lemmas.Option.{slice_get_past}
use Rattle.row_model.specs.Before.{PastPart}
use Rattle.hol_history.specs.declared.spots.Spot.{Spot}
use Rattle.hol_history.specs.History.{PastStep}
use Rattle.hol_history.specs.Kept.{IsFirstTouch}
use Rattle.hol_history.specs.Spots.{IsFirst, IsGreatest}
use Rattle.hol_history.specs.Steps.{AreSpots, step_touches, touches, touches_at, touches_row}

-- a step that touches something is there
touched_within : (steps : List PastStep) (place t o : ℕ) → touches_at steps place t o ≡ true → place < length steps
touched_within steps place t o touched = elim (cases_lt place (length steps)) [
  | inl before ↦ before
  | inr behind ↦ absurd (false≢true (sym (ap (λ (found : Option PastStep). step_touches found t o) (slice_get_past steps place behind)) ∙ touched))
]

-- so is its part of a type
pub type_within : (past : List PastPart) (t o : ℕ) → touches past t o ≡ true → t < length past
type_within past t o touched = elim (cases_lt t (length past)) [
  | inl before ↦ before
  | inr behind ↦ absurd (false≢true (sym (ap (λ (found : Option PastPart). touches_row found o) (slice_get_past past t behind)) ∙ touched))
]

module _ (spots : BTreeSet Spot) (next : ℕ) (steps : List PastStep) (are : AreSpots spots next steps) where
  -- no ordinal that a step touched exceeds the greatest
  pub greatest_tells : (t greatest : ℕ) → IsGreatest spots t next greatest → (place o : ℕ) → o < 2 ^ 32 → touches_at steps place t o ≡ true → o ≤ greatest
  greatest_tells t greatest is place o low touched =
      let inside = touched_within steps place t o touched in
      let all = are.within in
      is o (next - 1 - place) low (omega arith) (are.told t o (next - 1 - place) place (omega arith) ∙ touched)

  module _ (t o place : ℕ) (inside : place < length steps) where
    -- no step touched the row
    pub none_tells : IsFirst spots t o (next - 1 - place) None → (q : ℕ) → q ≤ place → touches_at steps q t o ≡ false
    none_tells none q le = let all = are.within in sym (are.told t o (next - 1 - q) q (omega arith)) ∙ none (next - 1 - q) (omega arith)

    module _ (first : ℕ) (is : IsFirst spots t o (next - 1 - place) (Some first)) where
      -- the first step has a number
      pub first_below : first < next
      first_below = elim (cases_lt first next) [ inl before ↦ before | inr behind ↦ absurd (false≢true (sym (are.fresh t o first behind) ∙ is.0)) ]

      first_touches : touches_at steps (next - 1 - first) t o ≡ true
      first_touches = let below = first_below in sym (are.told t o first (next - 1 - first) (omega arith)) ∙ is.0

      pub first_within : next - 1 - first < length steps
      first_within = touched_within steps (next - 1 - first) t o first_touches

      pub step_touched : (step : PastStep) → slice_get steps (next - 1 - first) ≡ Some step → touches step.past t o ≡ true
      step_touched step step_is = sym (ap (λ (found : Option PastStep). step_touches found t o) step_is) ∙ first_touches

      -- it is the first step that touched the row
      pub first_tells : (step : PastStep) (part : PastPart) → slice_get steps (next - 1 - first) ≡ Some step → slice_get step.past t ≡ Some part → IsFirstTouch steps place t o (next - 1 - first) step part
      first_tells step part step_is part_is =
          let below = first_below in
          let from = is.1 in
          let all = are.within in
          record {
            within = omega arith;
            step_is = step_is;
            part_is = part_is;
            touched = sym (ap (λ (found : Option PastPart). touches_row found o) part_is) ∙ step_touched step step_is;
            older = λ other behind before. sym (are.told t o (next - 1 - other) other (omega arith)) ∙ is.2 (next - 1 - other) (omega arith) (omega arith);
          }
