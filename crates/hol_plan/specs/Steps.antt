-- The versions of deltas, each at its place, and deltas as steps between places.
use Rattle.std.specs.Prelude.{◌≡◌, ℕ, List, All, Contains, slice_get, Option, None, Some}
use Rattle.std.specs.List.Sorted.{IsStrictlyIncreasing, IsNonDecreasingBy}
use Rattle.hol_io.specs.declared.name.BlobName.{BlobName}
use Rattle.hol_io.specs.declared.name.BlobName.TheVariants.{Snapshot, Delta, Reverse, Announced}
use Rattle.hol_plan.specs.declared.steps.Step.{Step}

-- The versions from and to which a delta or a reverse delta leads.
abbrev pub ends_of : BlobName → Option (ℕ × ℕ)
ends_of (Snapshot version) = None
ends_of (Delta begin end) = Some (begin, end)
ends_of (Reverse begin end) = Some (begin, end)
ends_of Announced = None

-- The versions between which a name leads are among these, if it is a delta or a reverse delta.
abbrev pub HasEnds : List ℕ → BlobName → Type 0
HasEnds versions name = (begin end : ℕ) → ends_of name ≡ Some (begin, end) → Contains versions begin × Contains versions end

-- The versions rise, and the end and those of each delta are among them.
pub record HasVersions (blobs : List BlobName) (to : ℕ) (versions : List ℕ) : Type 0 where
  pub rising : IsStrictlyIncreasing versions
  pub ended : Contains versions to
  pub deltas : All (HasEnds versions) blobs

-- A step is a delta or a reverse delta between the versions at its places.
pub record Joins (versions : List ℕ) (step : Step) : Type 0 where
  pub from : ℕ
  pub to : ℕ
  pub ends : ends_of step.name ≡ Some (from, to)
  pub begins : slice_get versions step.begin ≡ Some from
  pub leads : slice_get versions step.end ≡ Some to

-- The same, where its name is listed.
abbrev pub IsStep : List BlobName → List ℕ → Step → Type 0
IsStep blobs versions step = Contains blobs step.name × Joins versions step

-- If a name is a delta or a reverse delta, it is a step's.
abbrev pub HasStep : List Step → BlobName → Type 0
HasStep steps name = (begin end : ℕ) → ends_of name ≡ Some (begin, end) → (step : Step) × (Contains steps step × (step.name ≡ name))

-- The listed deltas as steps, those that lead to one place beside each other.
pub record AreSteps (blobs : List BlobName) (versions : List ℕ) (steps : List Step) : Type 0 where
  pub each : All (IsStep blobs versions) steps
  pub whole : All (HasStep steps) blobs
  pub grouped : IsNonDecreasingBy (λ step. step.end) steps
