-- The first of some numbers, in their order, that fails a test.
use Rattle.std.specs.Prelude.{◌≡◌, ◌<◌, ℕ, List, Some, slice_get}

-- The number stands at an index where it fails, and none before it fails.
pub record FirstFails (Fails : ℕ → ℕ → Type 0) (numbers : List ℕ) (number : ℕ) : Type 0 where
  pub index : ℕ
  pub stands : slice_get numbers index ≡ Some number
  pub fails : Fails index number
  pub passed : (earlier other : ℕ) → earlier < index → slice_get numbers earlier ≡ Some other → Fails earlier other → ⊥

-- None of the numbers fails.
abbrev pub NoneFails : (ℕ → ℕ → Type 0) → List ℕ → Type 0
NoneFails Fails numbers = (index number : ℕ) → slice_get numbers index ≡ Some number → Fails index number → ⊥
