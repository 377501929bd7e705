-- Walks along blobs from one version to another, and which of them is the plan.
use Rattle.std.specs.Prelude.{◌≡◌, ◌≢◌, ℕ, ◌≤◌, List, [], ◌∷◌, Contains, length, Option, None, Some}
use Rattle.std.specs.declared.cmp.Ordering.TheVariants.{Less}
use Rattle.std.specs.Cmp.Lexicographic.{slice_cmp}
use Rattle.hol_io.specs.declared.name.BlobName.{BlobName}
use Rattle.hol_io.specs.declared.name.BlobName.TheVariants.{Snapshot, Delta, Reverse, Announced}
use Rattle.hol_io.specs.Name.{name_cmp}

-- What a name leads from and to: a snapshot from every version, and from none, to its own; a delta and a reverse delta
-- from the first of their versions to the second; the announced version from nothing to nothing.
abbrev pub Leads : BlobName → Option ℕ → ℕ → Type 0
Leads (Snapshot version) from to = version ≡ to
Leads (Delta begin end) from to = (from ≡ Some begin) × (end ≡ to)
Leads (Reverse begin end) from to = (from ≡ Some begin) × (end ≡ to)
Leads Announced from to = ⊥

-- A list of listed names of which the first leads from `from`, each next one from where the one before it led, and the
-- last to `to`. The empty list leads from a version to itself.
abbrev pub IsWalk : List BlobName → Option ℕ → ℕ → List BlobName → Type 0
IsWalk blobs from to [] = from ≡ Some to
IsWalk blobs from to (name ∷ rest) = Contains blobs name × ((middle : ℕ) × (Leads name from middle × IsWalk blobs (Some middle) to rest))

-- A walk, of the walks one with the fewest names, and of these the first by comparing name by name in the order in which
-- a store lists names.
pub record IsPlan (blobs : List BlobName) (from : Option ℕ) (to : ℕ) (plan : List BlobName) : Type 0 where
  pub walks : IsWalk blobs from to plan
  pub fewest : (walk : List BlobName) → IsWalk blobs from to walk → length plan ≤ length walk
  pub first : (walk : List BlobName) → IsWalk blobs from to walk → length walk ≡ length plan → slice_cmp name_cmp walk plan ≢ Less

-- What is answered: a plan, or none, and then there is no walk.
abbrev pub TellsPlan : List BlobName → Option ℕ → ℕ → Option (List BlobName) → Type 0
TellsPlan blobs from to None = (walk : List BlobName) → ¬ IsWalk blobs from to walk
TellsPlan blobs from to (Some plan) = IsPlan blobs from to plan
