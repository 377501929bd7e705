-- Lists of ordinals: what they contain, and lists in which no number stands twice.
use Rattle.std.proofs.Common.{◌≡◌, ◌⊎◌, ℕ, zero, suc, ◌+◌, ◌<◌, ◌≤◌, cond, List, [], ◌∷◌, ◌++◌, length, refl, sym, subst, inl, inr, arith}
use Rattle.std.specs.Prelude.{◌≢◌, AllPairs, Contains, count_by, nat_eq, slice_index_or}
use Rattle.std.specs.List.Sorted.{IsNonDecreasing, IsPermutation, IsSorted}
use Rattle.std.specs.Ordering.{nat_cmp}
use Rattle.std.proofs.lemmas.Bool.{cases_eq}
use Rattle.std.proofs.lemmas.List.Elements.{Contains-append_cases, Contains-append_left, Contains-append_right, Contains-get_or}
use Rattle.std.proofs.lemmas.List.Sorted.{Contains-permutation, IsNonDecreasingBy-from_sort, IsPermutation-sym, sum_by-IsPermutation}
use Rattle.std.proofs.lemmas.List.Sums.{sum_by-append, sum_by-cons}
use Rattle.linked_slots.proofs.Tests.{same_test, other_test}
use Rattle.row_model.specs.Row.{Rises}
use Rattle.key_index.specs.Slots.{AreOnce, AreSorted}

-- ---- what a list contains

module _ {X : Type 0} where
  pub contains_first : (x y : X) (xs : List X) → x ≡ y → Contains (x ∷ xs) y
  contains_first x y xs e = (0, omega arith, e)

  pub contains_later : (x y : X) (xs : List X) → Contains xs y → Contains (x ∷ xs) y
  contains_later x y xs h = (suc h.0, omega (arith, h.1), h.2)

  pub contains_either : (x y : X) (xs : List X) → Contains (x ∷ xs) y → (x ≡ y) ⊎ Contains xs y
  contains_either x y xs (zero, within, e) = inl e
  contains_either x y xs (suc k, within, e) = inr (k, omega arith, e)

  pub contains_none : (y : X) → Contains {X = X} [] y → ⊥
  contains_none y h = omega (arith, h.1)

-- ---- how often a number stands in a list

is_one : (x y : ℕ) → x ≡ y → ◌≡◌ {A = ℕ} (cond (nat_eq x y) 1 0) 1
is_one x y e = same_test {X = ℕ} x y 1 0 e

is_none : (x y : ℕ) → (x ≡ y → ⊥) → ◌≡◌ {A = ℕ} (cond (nat_eq x y) 1 0) 0
is_none x y apart = other_test {X = ℕ} x y 1 0 apart

one_more : (x y : ℕ) (xs : List ℕ) → count_by (nat_eq x) (y ∷ xs) ≡ cond (nat_eq x y) 1 0 + count_by (nat_eq x) xs
one_more x y xs = sum_by-cons (λ z. cond (nat_eq x z) 1 0) y xs

contained : (x : ℕ) (xs : List ℕ) → Contains xs x → 1 ≤ count_by (nat_eq x) xs
contained x [] h = absurd (contains_none x h)
contained x (y ∷ xs) h =
    elim (contains_either y x xs h) [
      | inl e ↦ omega (arith, one_more x y xs, is_one x y (sym e))
      | inr later ↦ omega (arith, one_more x y xs, contained x xs later)
    ]

absent : (x : ℕ) (xs : List ℕ) → (Contains xs x → ⊥) → count_by (nat_eq x) xs ≡ 0
absent x [] never = refl
absent x (y ∷ xs) never =
    omega (arith, one_more x y xs, is_none x y (λ e. never (contains_first y x xs (sym e))), absent x xs (λ h. never (contains_later y x xs h)))

-- two places of one number
twice : (xs : List ℕ) (i j d : ℕ) → i < j → j < length xs → slice_index_or xs i d ≡ slice_index_or xs j d → 2 ≤ count_by (nat_eq (slice_index_or xs j d)) xs
twice [] i j d before within same = absurd (omega arith)
twice (y ∷ xs) i zero d before within same = absurd (omega arith)
twice (y ∷ xs) zero (suc j) d before within same =
    let x = slice_index_or xs j d in
    omega (arith, one_more x y xs, is_one x y (sym same), contained x xs (Contains-get_or xs j d (omega arith)))
twice (y ∷ xs) (suc i) (suc j) d before within same =
    omega (arith, one_more (slice_index_or xs j d) y xs, twice xs i j d (omega arith) (omega arith) same)

-- ---- lists in which no number stands twice

pub once_apart : (xs : List ℕ) → AllPairs (λ a b. a ≢ b) xs → AreOnce xs
once_apart [] apart = λ n. omega arith
once_apart (y ∷ xs) apart = λ n.
    elim (cases_eq n y) [
      | inl e ↦ omega (arith, one_more n y xs, is_one n y e, absent n xs (λ h. never (subst (λ m. Contains xs m) e h)))
      | inr other ↦ omega (arith, one_more n y xs, is_none n y other, once_apart xs rest n)
    ]
  where
    rest : AllPairs (λ a b. a ≢ b) xs
    rest = λ i j d before within. apart (suc i) (suc j) d (omega arith) (omega arith)

    never : Contains xs y → ⊥
    never h = apart 0 (suc h.0) y (omega arith) (omega (arith, h.1)) (sym h.2)

pub once_skipped : (found rest : List ℕ) (x : ℕ) → AreOnce (found ++ x ∷ rest) → AreOnce (found ++ rest)
once_skipped found rest x once = λ n.
    let f : ℕ → ℕ = λ z. cond (nat_eq n z) 1 0 in
    omega (arith, once n, sum_by-append f found (x ∷ rest), sum_by-cons f x rest, sum_by-append f found rest)

pub contains_skipped : (found rest : List ℕ) (x o : ℕ) → (o ≡ x → ⊥) → Contains (found ++ x ∷ rest) o → Contains (found ++ rest) o
contains_skipped found rest x o apart h =
    elim (Contains-append_cases found (x ∷ rest) o h) [
      | inl here ↦ Contains-append_left found rest o here
      | inr there ↦ elim (contains_either x o rest there) [ inl e ↦ absurd (apart (sym e)) | inr later ↦ Contains-append_right found rest o later ]
    ]

-- sorted they rise
rises_sorted : (found sorted : List ℕ) → AreOnce found → IsPermutation found sorted → IsSorted nat_cmp sorted → Rises sorted
rises_sorted found sorted once moved is_sorted = λ i j d before within.
    elim (cases_eq (slice_index_or sorted i d) (slice_index_or sorted j d)) [
      | inl same ↦ (let x = slice_index_or sorted j d in
          absurd (omega (arith, twice sorted i j d before within same, sum_by-IsPermutation (λ z. cond (nat_eq x z) 1 0) found sorted moved, once x)))
      | inr apart ↦ omega (arith, climbs i j d (omega arith) within)
    ]
  where
    climbs : IsNonDecreasing sorted
    climbs = IsNonDecreasingBy-from_sort (λ x. x) sorted is_sorted

pub are_sorted : (found sorted ordinals : List ℕ) → ordinals ≡ sorted → AreOnce found → IsPermutation found sorted → IsSorted nat_cmp sorted → AreSorted found ordinals
are_sorted found sorted ordinals is once moved is_sorted = subst (AreSorted found) (sym is) record {
  rising = rises_sorted found sorted once moved is_sorted;
  same = λ o. (Contains-permutation sorted found o (IsPermutation-sym found sorted moved), Contains-permutation found sorted o moved);
}
