-- The walks over lists of ordinals, and over those of a set.
use Rattle.std.proofs.Common.{inl, inr, true, nat_cmp, Option, None, Result, Ok, Err, false, ◌≡◌, ℕ, ◌+◌, ◌-◌, ◌^◌, ◌<◌, ◌≤◌, List, [], ◌∷◌, Some, subst, ap, sym, ◌∙◌, refl, arith, zero, suc, get_or, length}
use Rattle.std.specs.Prelude.{Contains, is_err, MatchOption, slice_get}
use Rattle.std.proofs.lemmas.Bool.{cases_eq, cases_lt}
use Rattle.std.proofs.lemmas.Option.{slice_get-get_or, slice_get_within}
use Rattle.std.specs.List.Sorted.{IsBinarySearchResult, IsStrictlyIncreasing}
use Rattle.std.proofs.lemmas.List.Sorted.{searched}
use Rattle.std.proofs.lemmas.Map.Keys.{below_from_sorted, sorted_from_strictly_increasing}
use Rattle.ordinal_set.specs.Ordinals.{AreOrdinals, TellsNext}
use Rattle.type_rows.specs.First.{FirstFails, NoneFails}
use Rattle.type_rows.specs.Ordinals.{HasNoPlace, HoldsNowhere, IsLeast, IsNotAbove, StaysOutside}
use Rattle.type_rows.proofs.OnceFirst.{some_once}

-- The numbers before an index have passed a test, and the last of them is below a bound by one.
pub record Walked (Test : ℕ → ℕ → Type 0) (numbers : List ℕ) (index from : ℕ) : Type 0 where
  pub passed : (earlier other : ℕ) → earlier < index → slice_get numbers earlier ≡ Some other → Test earlier other → ⊥
  pub start : index ≡ 0 → from ≡ 0
  pub behind : (earlier previous : ℕ) → index ≡ earlier + 1 → slice_get numbers earlier ≡ Some previous → from ≡ previous + 1

pub begun : (Test : ℕ → ℕ → Type 0) (numbers : List ℕ) → Walked Test numbers 0 0
begun Test numbers = record { passed = λ earlier other below. absurd (omega (arith, below)); start = λ e. refl; behind = λ earlier previous e. absurd (omega (arith, e)) }

pub walked_on : (Test : ℕ → ℕ → Type 0) (numbers : List ℕ) (index from number : ℕ) → Walked Test numbers index from → slice_get numbers index ≡ Some number → (Test index number → ⊥) → Walked Test numbers (index + 1) (number + 1)
walked_on Test numbers index from number w at passes = record {
  passed = λ earlier other below stands fails. elim (cases_lt earlier index) [
    | inl before ↦ w.passed earlier other before stands fails
    | inr here ↦ (
        let same : earlier ≡ index = omega (arith, below, here) in
        let is : other ≡ number = some_once other number (sym stands ∙ ap (slice_get numbers) same ∙ at) in
        passes (subst (λ k. Test k number) same (subst (λ n. Test earlier n) is fails)))
  ];
  start = λ e. absurd (omega (arith, e));
  behind = λ earlier previous e stands. (
      let same : earlier ≡ index = omega (arith, e) in
      let is : previous ≡ number = some_once previous number (sym stands ∙ ap (slice_get numbers) same ∙ at) in
      ap (λ (n : ℕ). n + 1) (sym is));
}

-- A number below the bound is not above the one before it, and one that is not below it is.
pub low_number : (Test : ℕ → ℕ → Type 0) (numbers : List ℕ) (index from number : ℕ) → Walked Test numbers index from → slice_get numbers index ≡ Some number → number < from → IsNotAbove numbers index number
low_number Test numbers zero from number w at low = absurd (omega (arith, low, w.start refl))
low_number Test numbers (suc earlier) from number w at low =
    let inside = slice_get_within numbers (suc earlier) number at in
    let there = slice_get-get_or numbers earlier 0 (omega (arith, inside)) in
    let bound = w.behind earlier (get_or numbers earlier 0) (omega arith) there in
    record { earlier = earlier; previous = get_or numbers earlier 0; behind = omega arith; stands = there; below = omega (arith, low, bound) }

pub high_number : (Test : ℕ → ℕ → Type 0) (numbers : List ℕ) (index from number : ℕ) → Walked Test numbers index from → from ≤ number → IsNotAbove numbers index number → ⊥
high_number Test numbers index from number w high low = omega (arith, high, low.below, w.behind low.earlier low.previous low.behind low.stands)

pub found_first : (Test : ℕ → ℕ → Type 0) (numbers : List ℕ) (index from number : ℕ) → Walked Test numbers index from → slice_get numbers index ≡ Some number → Test index number → FirstFails Test numbers number
found_first Test numbers index from number w at fails = record { index = index; stands = at; fails = fails; passed = w.passed }

pub found_none : (Test : ℕ → ℕ → Type 0) (numbers : List ℕ) (index from : ℕ) → Walked Test numbers index from → index ≡ length numbers → NoneFails Test numbers
found_none Test numbers index from w all k number at = w.passed k number (omega (arith, all, slice_get_within numbers k number at)) at

pub next_without_place : (places : ℕ) (set : List ℕ) (next : Option ℕ) → TellsNext places set next → MatchOption next (HoldsNowhere (HasNoPlace set places)) (IsLeast (HasNoPlace set places))
next_without_place places set None tells = λ number outside. omega (arith, outside.1, tells number outside.0)
next_without_place places set (Some next) tells = record { holds = (tells.member, tells.from); others = λ number outside. tells.least number outside.0 outside.1 }

-- No ordinal below a number stays without a place.
pub record NoneBefore (live removed : List ℕ) (places from : ℕ) : Type 0 where
  pub above : places ≤ from
  pub before : (number : ℕ) → StaysOutside live removed places number → from ≤ number

pub none_before : (live removed : List ℕ) (places : ℕ) → NoneBefore live removed places places
none_before live removed places = record { above = omega arith; before = λ number outside. outside.2 }

pub removed_passed : (live removed : List ℕ) (places from ordinal : ℕ) → NoneBefore live removed places from → IsLeast (HasNoPlace live from) ordinal → Contains removed ordinal → NoneBefore live removed places (ordinal + 1)
removed_passed live removed places from ordinal none least gone = record {
  above = omega (arith, none.above, least.holds.1);
  before = λ number outside. (
      let low = least.others number (outside.0, none.before number outside) in
      elim (cases_eq number ordinal) [
        | inl same ↦ absurd (outside.1 (subst (Contains removed) (sym same) gone))
        | inr other ↦ omega (arith, low, other)
      ]);
}

pub stays_first : (live removed : List ℕ) (places from ordinal : ℕ) → NoneBefore live removed places from → IsLeast (HasNoPlace live from) ordinal → (Contains removed ordinal → ⊥) → IsLeast (StaysOutside live removed places) ordinal
stays_first live removed places from ordinal none least stays = record {
  holds = (least.holds.0, stays, omega (arith, none.above, least.holds.1));
  others = λ number outside. least.others number (outside.0, none.before number outside);
}

pub stays_nowhere : (live removed : List ℕ) (places from : ℕ) → NoneBefore live removed places from → HoldsNowhere (HasNoPlace live from) → HoldsNowhere (StaysOutside live removed places)
stays_nowhere live removed places from none nowhere number outside = nowhere number (outside.0, none.before number outside)

pub no_member : (set : List ℕ) (o : ℕ) → AreOrdinals set → 2 ^ 32 - 1 < o → Contains set o → ⊥
no_member set o are above (k, inside, is) = (let low = are.small k o inside in omega (arith, low, above, is))

-- Numbers that rise are at a later index no lower.
rising_far : (numbers : List ℕ) → IsStrictlyIncreasing numbers → (i j : ℕ) → i ≤ j → j < length numbers → get_or numbers i 0 ≤ get_or numbers j 0
rising_far numbers rise i j below inside = elim (cases_lt i j) [
  | inl before ↦ (let up = below_from_sorted numbers i j 0 (sorted_from_strictly_increasing numbers rise) before inside in omega (arith, up))
  | inr here ↦ (let same : i ≡ j = omega (arith, below, here) in subst (λ k. get_or numbers i 0 ≤ get_or numbers k 0) same (omega arith))
]

-- What stands at an index does so whatever is taken past the end.
stands_so : (numbers : List ℕ) (index one other : ℕ) → index < length numbers → get_or numbers index one ≡ get_or numbers index other
stands_so numbers index one other inside = some_once (get_or numbers index one) (get_or numbers index other) (sym (slice_get-get_or numbers index one inside) ∙ slice_get-get_or numbers index other inside)

-- A search in numbers that rise finds a number exactly where it is among them.
pub found_there : (numbers : List ℕ) (number : ℕ) (found : Result ℕ ℕ) → IsStrictlyIncreasing numbers → IsBinarySearchResult (λ other. nat_cmp other number) numbers found → is_err found ≡ false → Contains numbers number
found_there numbers number (Ok index) rise search told =
    let at = searched numbers number (Ok index) search (rising_far numbers rise) in (index, at.0, stands_so numbers index number 0 at.0 ∙ at.1)
found_there numbers number (Err index) rise search told = absurd cc

pub not_there : (numbers : List ℕ) (number : ℕ) (found : Result ℕ ℕ) → IsStrictlyIncreasing numbers → IsBinarySearchResult (λ other. nat_cmp other number) numbers found → is_err found ≡ true → Contains numbers number → ⊥
not_there numbers number (Ok index) rise search told at = absurd cc
not_there numbers number (Err index) rise search told (k, inside, is) =
    let apart = searched numbers number (Err index) search (rising_far numbers rise) in
    let here = stands_so numbers k number 0 inside in
    elim (cases_lt k index) [
      | inl before ↦ (let low = apart.1 k before in omega (arith, low, here, is))
      | inr behind ↦ (let high = apart.2 k behind inside in omega (arith, high, here, is))
    ]
