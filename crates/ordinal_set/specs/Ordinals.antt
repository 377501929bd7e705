-- Sets of ordinals, each seen as the rising list of its members.
use Rattle.std.specs.Prelude.{ℕ, ◌+◌, ◌-◌, ◌^◌, ◌<◌, max, ◌≤◌, ◌⊎◌, List, [], ◌∷◌, ◌++◌, Option, None, Some, All, Contains, filter, find, nat_lt, nat_le, ◌==◌, not}
use Rattle.std.specs.List.{list_any}
use Rattle.std.specs.List.Sorted.{IsStrictlyIncreasing}

-- A rising list of ordinals, which are below 2 ^ 32 - 1.
pub record AreOrdinals (set : List ℕ) : Type 0 where
  pub rising : IsStrictlyIncreasing set
  pub small : All (λ ordinal. ordinal < 2 ^ 32 - 1) set

-- The members below a number.
unfoldable pub members_below : ℕ → List ℕ → List ℕ
members_below limit set = filter (λ m. nat_lt m limit) set

-- The set with one ordinal put in: the members below it, itself, and the members above it.
unfoldable pub with_ordinal : ℕ → List ℕ → List ℕ
unfolding members_below
with_ordinal o set = members_below o set ++ o ∷ filter (λ m. nat_lt o m) set

-- One past the greatest member, 0 for none.
unfoldable pub bound_of : List ℕ → ℕ
bound_of [] = 0
bound_of (m ∷ rest) = max (m + 1) (bound_of rest)

-- The least member that is not below a number.
unfoldable pub least_from : ℕ → List ℕ → Option ℕ
least_from o set = find (λ m. nat_le o m) set

-- The number is that member: one that is not below `ordinal`, and not above any other such member.
pub record IsNextMember (ordinal : ℕ) (set : List ℕ) (next : ℕ) : Type 0 where
  pub member : Contains set next
  pub from : ordinal ≤ next
  pub least : (other : ℕ) → Contains set other → ordinal ≤ other → next ≤ other

-- What each answer of a look-up of the next member tells.
abbrev pub TellsNext : ℕ → List ℕ → Option ℕ → Type 0
TellsNext o set None = (m : ℕ) → Contains set m → m < o
TellsNext o set (Some next) = IsNextMember o set next

-- The set with one ordinal taken out.
unfoldable pub without_ordinal : ℕ → List ℕ → List ℕ
without_ordinal o set = filter (λ m. not (m == o)) set

-- The members that another set lacks.
unfoldable pub lacking : List ℕ → List ℕ → List ℕ
lacking set other = filter (λ m. not (list_any (λ n. n == m) other)) set

-- The number is in neither set and not below `from`, and each number between the two is in one of them.
pub record IsLeastFree (from : ℕ) (set other : List ℕ) (least : ℕ) : Type 0 where
  pub free : Contains set least → ⊥
  pub other_free : Contains other least → ⊥
  pub reached : from ≤ least
  pub below : (number : ℕ) → from ≤ number → number < least → Contains set number ⊎ Contains other number
