-- Places of versions that rise.
use Rattle.std.proofs.Common.{◌≡◌, ℕ, ◌<◌, ◌≤◌, List, get_or, length, Some, Result, Ok, Err, sym, ◌∙◌, ap, subst, arith, inl, inr}
use Rattle.std.specs.List.{slice_get, Contains}
use Rattle.std.specs.List.Sorted.{IsStrictlyIncreasing}
use Rattle.std.specs.List.Sorted.{IsBinarySearchResult}
use Rattle.std.specs.Option.{MatchOption}
use Rattle.std.specs.Ordering.{nat_cmp}
use Rattle.std.specs.Result.{result_ok}
use Rattle.std.proofs.lemmas.Bool.{cases_lt, cases_order}
use Rattle.std.proofs.lemmas.List.{get_or_default}
use Rattle.std.proofs.lemmas.List.Sorted.{searched}
use Rattle.std.proofs.lemmas.Option.{slice_get_within, get_or_from_slice_get, slice_get-get_or}
use Rattle.std.proofs.lemmas.List.Kept.{AllPairs-from_increasing}
use Rattle.hol_plan.specs.declared.ways.Way.{Way}
use Rattle.hol_plan.specs.Start.{IsAway}
use Rattle.hol_plan.specs.Ways.{HasWay, Ways}

-- Versions that rise do not fall.
rise : (versions : List ℕ) → IsStrictlyIncreasing versions → (i j : ℕ) → i ≤ j → j < length versions → get_or versions i 0 ≤ get_or versions j 0
rise versions rising i j up within = elim (cases_order i j) [
  | inl same ↦ subst (λ k. get_or versions i 0 ≤ get_or versions k 0) same (omega arith)
  | inr apart ↦ elim apart [
    | inl lower ↦ omega (arith, AllPairs-from_increasing versions rising i j 0 lower within)
    | inr higher ↦ absurd (omega arith)
  ]
]

-- Each version has one place.
pub one_place : (versions : List ℕ) → IsStrictlyIncreasing versions → (version i j : ℕ) → slice_get versions i ≡ Some version → slice_get versions j ≡ Some version → i ≡ j
one_place versions rising version i j at also =
    let within : i < length versions = slice_get_within versions i version at in
    let inside : j < length versions = slice_get_within versions j version also in
    let one : get_or versions i 0 ≡ version = get_or_from_slice_get versions i version 0 at in
    let other : get_or versions j 0 ≡ version = get_or_from_slice_get versions j version 0 also in
    elim (cases_order i j) [
      | inl same ↦ same
      | inr apart ↦ elim apart [
        | inl lower ↦ absurd (omega (arith, AllPairs-from_increasing versions rising i j 0 lower inside))
        | inr higher ↦ absurd (omega (arith, AllPairs-from_increasing versions rising j i 0 higher within))
      ]
    ]

-- Two ways from one place are as long.
pub one_way : (ways : Ways) (place one other : ℕ) → HasWay ways place one → HasWay ways place other → one ≡ other
one_way ways place one other a b =
    let same : a.way ≡ b.way = (let e : ways place ≡ Some a.way = a.is in let f : ways place ≡ Some b.way = b.is in cc) in
    sym a.long ∙ (ap (λ (w : Way). w.distance) same ∙ b.long)

-- From one version all ways are as long.
pub one_away : (versions : List ℕ) → IsStrictlyIncreasing versions → (ways : Ways) (version one other : ℕ) → IsAway versions ways version one → IsAway versions ways version other → one ≡ other
one_away versions rising ways version one other a b =
    one_way ways b.place one other (subst (λ k. HasWay ways k one) (one_place versions rising version a.place b.place a.is b.is) a.leads) b.leads

-- What a binary search answers.
pub placed : (versions : List ℕ) (version : ℕ) → IsStrictlyIncreasing versions → (found : Result ℕ ℕ) → IsBinarySearchResult (λ y. nat_cmp y version) versions found
    → MatchOption (result_ok found) (¬ Contains versions version) (λ place. slice_get versions place ≡ Some version)
placed versions version rising (Ok place) is =
    let at = searched versions version (Ok place) is (rise versions rising) in
    slice_get-get_or versions place 0 at.0 ∙ ap Some at.1
placed versions version rising (Err place) is =
    let at = searched versions version (Err place) is (rise versions rising) in
    λ among.
    let here : get_or versions among.0 0 ≡ version = get_or_default versions among.0 0 version among.1 ∙ among.2 in
    elim (cases_lt among.0 place) [
      | inl before ↦ omega (arith, at.1 among.0 before)
      | inr behind ↦ omega (arith, at.2 among.0 behind among.1)
    ]
