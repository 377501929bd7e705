-- Which steps touched which rows, as a set that is ordered by type, then by ordinal and then by step.
use Rattle.std.specs.Prelude.{◌≡◌, ◌==◌, ◌<◌, ◌≤◌, ◌^◌, ◌&&◌, ℕ, Bool, true, false, List, Option, Some, None}
use Rattle.std.specs.List.{list_any}
use Rattle.std.specs.declared.cmp.Ordering.{Ordering}
use Rattle.std.specs.Ordering.{nat_cmp, ordering_then}
use Rattle.std.specs.BTreeSet.{BTreeSet, contains}
use Rattle.hol_history.specs.declared.spots.Spot.{Spot}

-- by type, then by ordinal, and then by the number of the step
abbrev pub spot_cmp : Spot → Spot → Ordering
spot_cmp a b = ordering_then (nat_cmp a.type_index b.type_index) (ordering_then (nat_cmp a.ordinal b.ordinal) (nat_cmp a.number b.number))

abbrev pub spot : ℕ → ℕ → ℕ → Spot
spot type_index ordinal number = record { type_index = type_index; ordinal = ordinal; number = number }

-- whether the step of a number touched the row of a type under an ordinal
abbrev pub has : BTreeSet Spot → ℕ → ℕ → ℕ → Bool
has spots type_index ordinal number = contains spot_cmp spots (spot type_index ordinal number)

-- whether an ordinal is one of these
abbrev pub is_among : List ℕ → ℕ → Bool
is_among ordinals ordinal = list_any (λ other. other == ordinal) ordinals

-- whether a spot is one of those of a type, some ordinals and a step
abbrev pub names : ℕ → List ℕ → ℕ → ℕ → ℕ → ℕ → Bool
names type_index ordinals number t o n = (t == type_index) && (n == number) && is_among ordinals o

-- What the search for the first step that touched a row, not before the one of a number, tells: its number, and none where there is none.
abbrev pub IsFirst : BTreeSet Spot → ℕ → ℕ → ℕ → Option ℕ → Type 0
IsFirst spots t o from None = (n : ℕ) → from ≤ n → has spots t o n ≡ false
IsFirst spots t o from (Some first) = (has spots t o first ≡ true) × (from ≤ first) × ((n : ℕ) → from ≤ n → n < first → has spots t o n ≡ false)

-- No ordinal under which a step before the one of a number touched a row of the type exceeds the greatest.
abbrev pub IsGreatest : BTreeSet Spot → ℕ → ℕ → ℕ → Type 0
IsGreatest spots t number greatest = (o n : ℕ) → o < 2 ^ 32 → n < number → has spots t o n ≡ true → o ≤ greatest

-- The spots of a kind are in, or out, and all others as they were.
pub record Sets (inside : Bool) (named : ℕ → ℕ → ℕ → Bool) (old new : BTreeSet Spot) : Type 0 where
  pub are : (type_index ordinal number : ℕ) → named type_index ordinal number ≡ true → has new type_index ordinal number ≡ inside
  pub others : (type_index ordinal number : ℕ) → named type_index ordinal number ≡ false → has new type_index ordinal number ≡ has old type_index ordinal number

-- Spots that are not of a kind are as they were.
abbrev pub KeepsOthers : (ℕ → ℕ → ℕ → Bool) → BTreeSet Spot → BTreeSet Spot → Type 0
KeepsOthers named old new = (t o n : ℕ) → named t o n ≡ false → has new t o n ≡ has old t o n
