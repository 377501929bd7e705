-- When an ordinal of a type is bad: what a patch removes and adds is walked from the front, what is live and stays by rising ordinal.
use Rattle.std.specs.Prelude.{◌≡◌, ◌⊎◌, ◌+◌, ◌≤◌, ℕ, List, Some, Contains, slice_get}

-- The number at an index is not above the one before it.
pub record IsNotAbove (numbers : List ℕ) (index number : ℕ) : Type 0 where
  pub earlier : ℕ
  pub previous : ℕ
  pub behind : index ≡ earlier + 1
  pub stands : slice_get numbers earlier ≡ Some previous
  pub below : number ≤ previous

-- A removed ordinal is not above the one before it, or is not live.
abbrev pub FailsRemoved : List ℕ → List ℕ → ℕ → ℕ → Type 0
FailsRemoved live removed index ordinal = IsNotAbove removed index ordinal ⊎ (Contains live ordinal → ⊥)

-- An added ordinal is not above the one before it, has no place, or is live before.
abbrev pub FailsAdded : List ℕ → ℕ → List ℕ → ℕ → ℕ → Type 0
FailsAdded live places added index ordinal = IsNotAbove added index ordinal ⊎ (places ≤ ordinal) ⊎ Contains live ordinal

-- The least number of which something holds.
pub record IsLeast (Holds : ℕ → Type 0) (least : ℕ) : Type 0 where
  pub holds : Holds least
  pub others : (number : ℕ) → Holds number → least ≤ number

-- A live ordinal of a set has no place.
abbrev pub HasNoPlace : List ℕ → ℕ → ℕ → Type 0
HasNoPlace live places ordinal = Contains live ordinal × (places ≤ ordinal)

-- An ordinal is live and not removed, and has no place.
abbrev pub StaysOutside : List ℕ → List ℕ → ℕ → ℕ → Type 0
StaysOutside live removed places ordinal = Contains live ordinal × (Contains removed ordinal → ⊥) × (places ≤ ordinal)

-- It holds of no number.
abbrev pub HoldsNowhere : (ℕ → Type 0) → Type 0
HoldsNowhere Holds = (number : ℕ) → Holds number → ⊥
