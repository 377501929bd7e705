-- The ways that are found over steps, from the places of versions to the end.
use Rattle.std.specs.Prelude.{◌≡◌, ℕ, ◌+◌, ◌<◌, ◌≤◌, List, All, Contains, Option, None, Some, MatchOption, slice_index_or, ◌⊎◌, count_by, is_none}
use Rattle.std.specs.declared.cmp.Ordering.TheVariants.{Less}
use Rattle.hol_io.specs.declared.name.BlobName.{BlobName}
use Rattle.hol_io.specs.Name.{name_cmp}
use Rattle.hol_plan.specs.declared.steps.Step.{Step}
use Rattle.hol_plan.specs.declared.ways.Way.{Way}

-- The way that is found from each place, if one is.
abbrev pub Ways : Type 0
Ways = ℕ → Option Way

abbrev pub way_at : List (Option Way) → Ways
way_at ways place = slice_index_or ways place None

-- A way of so many steps is found from a place.
pub record HasWay (ways : Ways) (place distance : ℕ) : Type 0 where
  pub way : Way
  pub is : ways place ≡ Some way
  pub long : way.distance ≡ distance

-- A step begins at a place and leads to where a way of one step less is found.
pub record IsFirst (steps : List Step) (ways : Ways) (place distance : ℕ) (step : Step) : Type 0 where
  pub listed : Contains steps step
  pub begins : step.begin ≡ place
  pub near : ℕ
  pub leads : HasWay ways step.end near
  pub nearer : distance ≡ near + 1

-- What is found from a place is a way to the end.
abbrev pub IsWay : List Step → ℕ → Ways → ℕ → Way → Type 0
IsWay steps end ways place way =
    MatchOption way.first ((way.distance ≡ 0) × (place ≡ end)) (IsFirst steps ways place way.distance)

-- The name comes before that of the step, if there is one.
abbrev pub IsBefore : BlobName → Option Step → Type 0
IsBefore name None = ⊥
IsBefore name (Some step) = name_cmp name step.name ≡ Less

-- Where a step begins, a way is found of no more than so many steps, and if it has so many, its first name comes no later
-- than the step's.
pub record IsPassed (ways : Ways) (distance : ℕ) (step : Step) : Type 0 where
  pub way : Way
  pub is : ways step.begin ≡ Some way
  pub most : way.distance ≤ distance
  pub first : way.distance ≡ distance → ¬ IsBefore step.name way.first

-- What is kept of the way that is found where a step begins and of the one that begins by the step.
abbrev pub IsChosen : Step → ℕ → Option Way → Way → Type 0
IsChosen step distance None chosen = chosen ≡ record { distance = distance; first = Some step }
IsChosen step distance (Some way) chosen =
    ((chosen ≡ way) × (way.distance ≡ distance → ¬ IsBefore step.name way.first))
    ⊎ ((chosen ≡ record { distance = distance; first = Some step }) × (way.distance ≡ distance) × IsBefore step.name way.first)

-- All ways of less than so many steps are found, and `next` has the places of those of so many that are found so far;
-- `level` has the places of those of one less, and all steps that lead to shorter ones are passed.
pub record IsFront (steps : List Step) (end distance : ℕ) (level : List ℕ) (ways : Ways) (next : List ℕ) : Type 0 where
  pub ended : HasWay ways end 0
  pub found : (place : ℕ) (way : Way) → ways place ≡ Some way → IsWay steps end ways place way
  pub most : (place : ℕ) (way : Way) → ways place ≡ Some way → way.distance ≤ distance
  pub next_all : (place : ℕ) → HasWay ways place distance → Contains next place
  pub next_in : (place : ℕ) → Contains next place → HasWay ways place distance
  pub level_all : (place : ℕ) (way : Way) → ways place ≡ Some way → way.distance + 1 ≡ distance → Contains level place
  pub level_in : (place : ℕ) → Contains level place → (near : ℕ) × (HasWay ways place near × (near + 1 ≡ distance))
  pub passed : (step : Step) → Contains steps step → (way : Way) → ways step.end ≡ Some way → way.distance + 1 < distance → IsPassed ways (way.distance + 1) step

-- Shortest ways are found from all places from which there is one, each by the first name.
pub record AreWays (steps : List Step) (end : ℕ) (ways : Ways) : Type 0 where
  pub ended : HasWay ways end 0
  pub found : (place : ℕ) (way : Way) → ways place ≡ Some way → IsWay steps end ways place way
  pub passed : (step : Step) → Contains steps step → (way : Way) → ways step.end ≡ Some way → IsPassed ways (way.distance + 1) step

-- The steps that lead to a place.
pub record IsGroup (steps : List Step) (place : ℕ) (group : List Step) : Type 0 where
  pub each : All (λ step. Contains steps step × (step.end ≡ place)) group
  pub whole : (step : Step) → Contains steps step → step.end ≡ place → Contains group step

-- How many places have no way yet.
abbrev pub unreached : List (Option Way) → ℕ
unreached ways = count_by is_none ways

-- What passing a group of steps leaves: what was passed stays passed, and these are.
pub record Reaches (steps : List Step) (end distance : ℕ) (level : List ℕ) (group : List Step) (before after : Ways) (next : List ℕ) : Type 0 where
  pub front : IsFront steps end distance level after next
  pub stays : (step : Step) → IsPassed before distance step → IsPassed after distance step
  pub reached : All (IsPassed after distance) group
