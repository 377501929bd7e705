-- What a history keeps of the row of a type under an ordinal before the step at a place.
use Rattle.std.specs.Prelude.{◌≡◌, ◌<◌, ◌≤◌, ℕ, true, false, List, Some, None, slice_get}
use Rattle.std.specs.FinMap.{find}
use Rattle.std.specs.Ordering.{nat_cmp}
use Rattle.row_model.specs.Before.{PastPart, left_rows}
use Rattle.hol_history.specs.declared.history.Kept.{Kept}
use Rattle.hol_history.specs.declared.history.Kept.TheVariants.{Absent, Left, Untouched}
use Rattle.hol_history.specs.History.{PastStep}
use Rattle.hol_history.specs.Steps.{is_touched, touches_at}

-- The step at a place is the first one, from an older place on, that touched the row of a type under an ordinal: this is what it changed of the type.
pub record IsFirstTouch (steps : List PastStep) (from type_index ordinal place : ℕ) (step : PastStep) (part : PastPart) : Type 0 where
  pub within : place ≤ from
  pub step_is : slice_get steps place ≡ Some step
  pub part_is : slice_get step.past type_index ≡ Some part
  pub touched : is_touched part ordinal ≡ true
  pub older : (other : ℕ) → place < other → other ≤ from → touches_at steps other type_index ordinal ≡ false

-- What each answer of a look-up of what is kept tells: the row that left in the first step from that at the place on that touched it; that it came in that step; or that none of these steps touched it.
abbrev pub TellsKept : List PastStep → ℕ → ℕ → ℕ → Kept → Type 0
TellsKept steps from t o (Left row) = (place : ℕ) × (step : PastStep) × (part : PastPart) × IsFirstTouch steps from t o place step part × (find nat_cmp o (left_rows part) ≡ Some row.now)
TellsKept steps from t o Absent = (place : ℕ) × (step : PastStep) × (part : PastPart) × IsFirstTouch steps from t o place step part × (find nat_cmp o (left_rows part) ≡ None)
TellsKept steps from t o Untouched = (place : ℕ) → place ≤ from → touches_at steps place t o ≡ false
