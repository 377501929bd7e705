-- Sets that are made one ordinal after another: the members below a number.
use Rattle.std.proofs.Common.{◌≡◌, ℕ, ◌+◌, ◌<◌, inl, inr, List, subst, arith}
use Rattle.std.specs.Prelude.{Contains, nat_lt}
use Rattle.std.specs.List.Sorted.{IsStrictlyIncreasing}
use Rattle.std.proofs.lemmas.Bool.{cases_lt, lt-ltb, ltb-true}
use Rattle.std.proofs.lemmas.List.Kept.{IsStrictlyIncreasing-filter}
use Rattle.ordinal_set.specs.Ordinals.{IsNextMember, members_below, with_ordinal}
use Rattle.ordinal_set.proofs.Members.{Contains-filter, Contains-kept, Contains-with_ordinal_cases, Contains-with_ordinal_itself, Contains-with_ordinal_kept, passes-from_filter, rising-with_ordinal, same_rising}

below_in : (limit : ℕ) (set : List ℕ) (m : ℕ) → Contains (members_below limit set) m → Contains set m
unfolding members_below
below_in limit set m at = Contains-filter (λ n. nat_lt n limit) set m at

below_low : (limit : ℕ) (set : List ℕ) (m : ℕ) → Contains (members_below limit set) m → m < limit
unfolding members_below
below_low limit set m at = ltb-true m limit (passes-from_filter (λ n. nat_lt n limit) set m at)

below_kept : (limit : ℕ) (set : List ℕ) (m : ℕ) → Contains set m → m < limit → Contains (members_below limit set) m
unfolding members_below
below_kept limit set m at low = Contains-kept (λ n. nat_lt n limit) set m at (lt-ltb m limit low)

below_rise : (limit : ℕ) (set : List ℕ) → IsStrictlyIncreasing set → IsStrictlyIncreasing (members_below limit set)
unfolding members_below
below_rise limit set rise = IsStrictlyIncreasing-filter (λ n. nat_lt n limit) set rise

-- The members up to the next one.
pub with_next : (from next : ℕ) (set : List ℕ) → IsStrictlyIncreasing set → IsNextMember from set next → with_ordinal next (members_below from set) ≡ members_below (next + 1) set
with_next from next set rise is =
    same_rising (with_ordinal next (members_below from set)) (members_below (next + 1) set) (rising-with_ordinal next (members_below from set) (below_rise from set rise)) (below_rise (next + 1) set rise)
    (λ m at. elim (Contains-with_ordinal_cases next (members_below from set) m at) [
      | inl before ↦ (let low = below_low from set m before in below_kept (next + 1) set m (below_in from set m before) (omega (arith, low, is.from)))
      | inr it ↦ subst (Contains (members_below (next + 1) set)) it (below_kept (next + 1) set next is.member (omega arith))
    ])
    (λ m at.
    let inside = below_in (next + 1) set m at in
    let low = below_low (next + 1) set m at in
    elim (cases_lt m from) [
      | inl before ↦ Contains-with_ordinal_kept next (members_below from set) m (below_kept from set m inside before)
      | inr above ↦ (
          let least = is.least m inside above in
          let same : next ≡ m = omega (arith, least, low) in
          subst (Contains (with_ordinal next (members_below from set))) same (Contains-with_ordinal_itself next (members_below from set)))
    ])
