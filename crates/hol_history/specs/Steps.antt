-- Which rows the steps of a history touched: those that came, and those that left.
use Rattle.std.specs.Prelude.{◌≡◌, ◌==◌, ◌<◌, ◌≤◌, ◌+◌, ◌&&◌, ◌||◌, ℕ, Bool, false, List, Option, Some, None, length, option_and_then, slice_get}
use Rattle.std.specs.BTreeSet.{BTreeSet}
use Rattle.std.specs.List.Sorted.{IsStrictlyIncreasing}
use Rattle.row_model.specs.Before.{PastPart}
use Rattle.hol_history.specs.declared.spots.Spot.{Spot}
use Rattle.hol_history.specs.History.{PastStep}
use Rattle.hol_history.specs.Spots.{has, is_among, names}

-- What a type's part of a step looks like: the ordinals that left rise, and have a row each.
pub record IsPart (part : PastPart) : Type 0 where
  pub rising : IsStrictlyIncreasing part.gone
  pub rows : length part.rows ≡ length part.gone

-- whether a step touched the row of a type under an ordinal, where this is what it changed of the type
abbrev pub is_touched : PastPart → ℕ → Bool
is_touched part ordinal = is_among part.came ordinal || is_among part.gone ordinal

abbrev pub touches_row : Option PastPart → ℕ → Bool
touches_row (Some part) ordinal = is_touched part ordinal
touches_row None ordinal = false

-- whether a step touched the row of a type under an ordinal
abbrev pub touches : List PastPart → ℕ → ℕ → Bool
touches past type_index ordinal = touches_row (slice_get past type_index) ordinal

abbrev pub step_touches : Option PastStep → ℕ → ℕ → Bool
step_touches (Some step) type_index ordinal = touches step.past type_index ordinal
step_touches None type_index ordinal = false

-- whether the step at a place touched the row of a type under an ordinal; the newest step stands at 0
abbrev pub touches_at : List PastStep → ℕ → ℕ → ℕ → Bool
touches_at steps place type_index ordinal = step_touches (slice_get steps place) type_index ordinal

-- whether a spot is of a part of a step: of what the step of a number changed of a type
abbrev pub part_names : ℕ → PastPart → ℕ → ℕ → ℕ → ℕ → Bool
part_names type_index part number t o n = names type_index part.came number t o n || names type_index part.gone number t o n

-- whether a spot is of a step of a number
abbrev pub step_names : List PastPart → ℕ → ℕ → ℕ → ℕ → Bool
step_names past number t o n = (n == number) && touches past t o

-- These spots are those of the steps. The newest step has the number before the next one, and each older one the number before that of the newer one.
pub record AreSpots (spots : BTreeSet Spot) (next : ℕ) (steps : List PastStep) : Type 0 where
  pub within : length steps ≤ next
  pub told : (type_index ordinal number place : ℕ) → number + place + 1 ≡ next → has spots type_index ordinal number ≡ touches_at steps place type_index ordinal
  pub fresh : (type_index ordinal number : ℕ) → next ≤ number → has spots type_index ordinal number ≡ false

-- What is kept agrees: no more steps than the bound, and the spots of those.
pub record AreKept (spots : BTreeSet Spot) (next bound : ℕ) (steps : List PastStep) : Type 0 where
  pub touched : AreSpots spots next steps
  pub few : length steps ≤ bound

-- What a search for the newest step from a version tells: its place, and none where no step led from it.
abbrev pub IsPlaceOf : List PastStep → ℕ → Option ℕ → Type 0
IsPlaceOf steps version None = (place : ℕ) (step : PastStep) → slice_get steps place ≡ Some step → ¬ (step.from ≡ version)
IsPlaceOf steps version (Some place) =
    ((step : PastStep) × (slice_get steps place ≡ Some step) × (step.from ≡ version)) × ((newer : ℕ) (step : PastStep) → newer < place → slice_get steps newer ≡ Some step → ¬ (step.from ≡ version))

-- So many steps led from a version: the newest one from it, and those behind that one.
abbrev pub IsCountSince : List PastStep → ℕ → ℕ → Type 0
IsCountSince steps version count = (place : ℕ) × IsPlaceOf steps version (Some place) × (count ≡ place + 1)

-- what the step at a place changed of a type, if there is such a step and such a type
abbrev pub part_at : List PastStep → ℕ → ℕ → Option PastPart
part_at steps place type_index = option_and_then (λ step. slice_get step.past type_index) (slice_get steps place)
