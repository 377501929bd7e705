-- From where and how a walk begins.
use Rattle.std.specs.Prelude.{◌≡◌, ℕ, ◌<◌, ◌≤◌, List, [], ◌∷◌, Contains, Option, None, Some, slice_get, ◌⊎◌}
use Rattle.hol_io.specs.declared.name.BlobName.{BlobName}
use Rattle.hol_io.specs.declared.name.BlobName.TheVariants.{Snapshot}
use Rattle.hol_plan.specs.declared.start.Start.{Start}
use Rattle.hol_plan.specs.declared.start.Begin.{Begin}
use Rattle.hol_plan.specs.declared.start.Begin.TheVariants as begin
use Rattle.hol_plan.specs.declared.steps.Step.{Step}
use Rattle.hol_plan.specs.declared.ways.Way.{Way}
use Rattle.hol_plan.specs.Steps.{AreSteps}
use Rattle.hol_plan.specs.Ways.{AreWays, HasWay, Ways}

-- A way of so many steps is found from a version.
pub record IsAway (versions : List ℕ) (ways : Ways) (version distance : ℕ) : Type 0 where
  pub place : ℕ
  pub is : slice_get versions place ≡ Some version
  pub leads : HasWay ways place distance

-- A start is at the place of its version, with the number of its steps.
pub record IsStart (versions : List ℕ) (ways : Ways) (version : ℕ) (start : Start) : Type 0 where
  pub same : start.version ≡ version
  pub is : slice_get versions start.place ≡ Some version
  pub leads : HasWay ways start.place start.distance

-- The start at a version, none where no way is found from it.
abbrev pub TellsStart : List ℕ → Ways → ℕ → Option Start → Type 0
TellsStart versions ways version None = (distance : ℕ) → ¬ IsAway versions ways version distance
TellsStart versions ways version (Some start) = IsStart versions ways version start

-- The start at the version where a walk begins, if there are both.
abbrev pub TellsOwn : List ℕ → Ways → Option ℕ → Option Start → Type 0
TellsOwn versions ways None own = own ≡ None
TellsOwn versions ways (Some version) own = TellsStart versions ways version own

-- What a name gives as a start behind a snapshot.
abbrev pub TellsSnapshot : List ℕ → Ways → BlobName → Option Start → Type 0
TellsSnapshot versions ways name None = (version distance : ℕ) → name ≡ Snapshot version → ¬ IsAway versions ways version distance
TellsSnapshot versions ways name (Some start) = (name ≡ Snapshot start.version) × IsStart versions ways start.version start

-- No start at a version by a way of so many steps would be nearer.
abbrev pub IsNoFarther : Start → ℕ → ℕ → Type 0
IsNoFarther start version distance = (start.distance ≤ distance) × (distance ≡ start.distance → start.version ≤ version)

-- The start behind a listed snapshot from which the fewest steps lead on, of these the one of the lowest version.
abbrev pub IsNearest : List BlobName → List ℕ → Ways → Option Start → Type 0
IsNearest blobs versions ways None = (version distance : ℕ) → Contains blobs (Snapshot version) → ¬ IsAway versions ways version distance
IsNearest blobs versions ways (Some start) =
    Contains blobs (Snapshot start.version) × IsStart versions ways start.version start
    × ((version distance : ℕ) → Contains blobs (Snapshot version) → IsAway versions ways version distance → IsNoFarther start version distance)

-- The nearer of two starts.
pub record IsNearer (nearest : Option Start) (start chosen : Start) : Type 0 where
  pub one : (chosen ≡ start) ⊎ (nearest ≡ Some chosen)
  pub new : IsNoFarther chosen start.version start.distance
  pub old : (other : Start) → nearest ≡ Some other → IsNoFarther chosen other.version other.distance

-- Which of two starts, at the version itself and behind a snapshot, has the fewer names.
abbrev pub Begins : Option Start → Option Start → Option Begin → Type 0
Begins own nearest None = (own ≡ None) × (nearest ≡ None)
Begins own nearest (Some (begin.Own start)) = (own ≡ Some start) × ((other : Start) → nearest ≡ Some other → start.distance ≤ other.distance)
Begins own nearest (Some (begin.Behind start)) = (nearest ≡ Some start) × ((other : Start) → own ≡ Some other → start.distance < other.distance)

-- Each way but the empty one begins by a step to where a shorter way is found.
abbrev pub Descend : Ways → Type 0
Descend ways = (place : ℕ) (way : Way) (step : Step) → ways place ≡ Some way → way.first ≡ Some step → (near : ℕ) × (HasWay ways step.end near × (near < way.distance))

-- The names of the first steps of the ways that one comes along from a place.
abbrev pub IsPath : Ways → ℕ → List BlobName → Type 0
IsPath ways place [] = (way : Way) × ((ways place ≡ Some way) × (way.first ≡ None))
IsPath ways place (name ∷ rest) =
    (way : Way) × ((step : Step) × ((ways place ≡ Some way) × (way.first ≡ Some step) × (step.name ≡ name) × IsPath ways step.end rest))

-- The names of a walk that begins so.
abbrev pub IsWalkOf : Ways → Begin → List BlobName → Type 0
IsWalkOf ways (begin.Own start) names = IsPath ways start.place names
IsWalkOf ways (begin.Behind start) names = (rest : List BlobName) × ((names ≡ Snapshot start.version ∷ rest) × IsPath ways start.place rest)

-- Shortest ways to a version over listed deltas.
pub record AreWaysOver (blobs : List BlobName) (to : ℕ) (versions : List ℕ) (ways : Ways) : Type 0 where
  pub steps : List Step
  pub end : ℕ
  pub ended : slice_get versions end ≡ Some to
  pub are : AreSteps blobs versions steps
  pub found : AreWays steps end ways

-- The start of a walk that begins so.
abbrev pub start_of : Begin → Start
start_of (begin.Own start) = start
start_of (begin.Behind start) = start

-- The first step of a way.
abbrev pub first_of : Option Way → Option Step
first_of None = None
first_of (Some way) = way.first
