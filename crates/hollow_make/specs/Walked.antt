-- The versions that the cycles of the script publish.
use Rattle.std.specs.Prelude.{◌≤◌, ◌<◌, ◌+◌, ℕ, List, length, slice_index}

-- The versions rise, and each is that of one of the first cycles.
pub record AreBelow (cycle : ℕ) (published : List ℕ) : Type 0 where
  pub within : (place : ℕ) → place < length published → (1 ≤ slice_index published place) × (slice_index published place < cycle)
  pub rising : (place : ℕ) → place + 1 < length published → slice_index published place < slice_index published (place + 1)

-- The versions rise, and each is that of a cycle.
abbrev pub ArePublished : List ℕ → Type 0
ArePublished published = AreBelow 1001 published
