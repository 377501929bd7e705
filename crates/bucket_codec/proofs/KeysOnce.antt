-- Lemmas on keys that stand once: pairs by rising key can be made of them, and of no others.
use Rattle.std.proofs.Common.{◌≡◌, ℕ, zero, suc, ◌<◌, ◌≤◌, ◌⊎◌, List, [], ◌∷◌, length, Some, None, cond, eqb, arith, refl, sym, ap, subst, ⊎_elim, get_or}
use Rattle.std.specs.Prelude.{All}
use Rattle.std.specs.List.{Contains, sum_by}
use Rattle.std.specs.List.Sorted.{IsPermutation}
use Rattle.std.proofs.lemmas.Bool.{cases_lt, cases_order, eq-eqb, eqb-true}
use Rattle.std.proofs.lemmas.List.{get_or-map, length-map}
use Rattle.std.proofs.lemmas.List.Elements.{All-nil, All-cons, All-map, All-contains}
use Rattle.std.proofs.lemmas.List.Kept.{AllPairs-cons}
use Rattle.std.proofs.lemmas.List.Sorted.{sum_by-IsPermutation, All-permutation, Contains-permutation, IsPermutation-refl, IsPermutation-cons, IsPermutation-trans, IsPermutation-sym, IsPermutation-swap}
use Rattle.std.proofs.lemmas.List.Sums.{sum_by-cons}
use Rattle.row_model.specs.Row.{Rises}
use Rattle.bucket_codec.specs.Run.{Bucket, bucket_at, taken_of, keys_of, SpellsRun}
use Rattle.bucket_codec.proofs.Members.{contains_cons, contains_head, contains_cases, taken_has, taken_from}

-- two places with one key are one
pub record IsOnce (run : List Bucket) : Type 0 where
  pub one : (p q : ℕ) → p < length run → q < length run → (key v w : ℕ) → bucket_at run p ≡ Some (key, v) → bucket_at run q ≡ Some (key, w) → p ≡ q

-- no later pair has the key of an earlier one
IsDistinct : List (ℕ × ℕ) → Type 0
IsDistinct [] = Unit {0}
IsDistinct (p ∷ pairs) = ((value : ℕ) → Contains pairs (p.0, value) → ⊥) × IsDistinct pairs

-- the key of each later pair is above the first
first_below : (y : ℕ × ℕ) (ys : List (ℕ × ℕ)) → Rises (keys_of (y ∷ ys)) → All (λ p. y.0 < p.0) ys
first_below y ys rises = λ k d below.
    let above = rises 0 (suc k) 0 (omega arith) (omega (arith, length-map ys (λ (q : ℕ × ℕ). q.0))) in
    let there : get_or (keys_of ys) k 0 ≡ (get_or ys k d).0 = get_or-map (λ (q : ℕ × ℕ). q.0) ys k d 0 below in
    omega (arith, above, there)

rest_rises : (y : ℕ × ℕ) (ys : List (ℕ × ℕ)) → Rises (keys_of (y ∷ ys)) → Rises (keys_of ys)
rest_rises y ys rises = λ i j d a b. rises (suc i) (suc j) d (omega arith) (omega arith)

rises_with : (y : ℕ × ℕ) (ys : List (ℕ × ℕ)) → All (λ p. y.0 < p.0) ys → Rises (keys_of ys) → Rises (keys_of (y ∷ ys))
rises_with y ys above rises = AllPairs-cons (λ a b. a < b) y.0 (keys_of ys) (All-map (λ k. y.0 < k) (λ (p : ℕ × ℕ). p.0) ys above) rises

-- the pairs by rising key, and one more
record IsSorting (xs zs : List (ℕ × ℕ)) : Type 0 where
  rises : Rises (keys_of zs)
  same : IsPermutation xs zs

swapped : (x y : ℕ × ℕ) (ys : List (ℕ × ℕ)) → IsPermutation (x ∷ y ∷ ys) (y ∷ x ∷ ys)
swapped x y ys = IsPermutation-swap (x ∷ y ∷ ys) (y ∷ x ∷ ys) 0 1 (omega arith) (omega arith) refl

more_sorted : (x : ℕ × ℕ) (ys : List (ℕ × ℕ)) → Rises (keys_of ys) → ((value : ℕ) → Contains ys (x.0, value) → ⊥) → (zs : List (ℕ × ℕ)) × IsSorting (x ∷ ys) zs
more_sorted x [] rises apart = (x ∷ [], record { rises = rises_with x [] (All-nil (λ p. x.0 < p.0)) rises; same = IsPermutation-refl (x ∷ []) })
more_sorted x (y ∷ ys) rises apart =
    ⊎_elim
    (λ (same : x.0 ≡ y.0). absurd (apart y.1 (subst (λ k. Contains (y ∷ ys) (k, y.1)) (sym same) (contains_head y ys))))
    (λ (other : (x.0 < y.0) ⊎ (y.0 < x.0)). ⊎_elim
    (λ (less : x.0 < y.0). (
      x ∷ y ∷ ys,
      record {
        rises = rises_with x (y ∷ ys) (All-cons (λ p. x.0 < p.0) y ys less (λ k d below. let above = first_below y ys rises k d below in omega (arith, above))) rises;
        same = IsPermutation-refl (x ∷ y ∷ ys);
      },
    ))
    (λ (more : y.0 < x.0).
    let later = more_sorted x ys (rest_rises y ys rises) (λ value h. apart value (contains_cons y (x.0, value) ys h)) in
    let above : All (λ p. y.0 < p.0) later.0 = All-permutation (λ p. y.0 < p.0) (x ∷ ys) later.0 later.1.same (All-cons (λ p. y.0 < p.0) x ys more (first_below y ys rises)) in (
      y ∷ later.0,
      record {
        rises = rises_with y later.0 above later.1.rises;
        same = IsPermutation-trans (x ∷ y ∷ ys) (y ∷ x ∷ ys) (y ∷ later.0) (swapped x y ys) (IsPermutation-cons y (x ∷ ys) later.0 later.1.same);
      },
    ))
    other)
    (cases_order x.0 y.0)

all_sorted : (xs : List (ℕ × ℕ)) → IsDistinct xs → (zs : List (ℕ × ℕ)) × IsSorting xs zs
unfolding IsDistinct
all_sorted [] distinct = ([], record { rises = λ i j d a b. absurd (omega arith); same = IsPermutation-refl [] })
all_sorted (x ∷ xs) (apart, distinct) =
    let rest = all_sorted xs distinct in
    let more = more_sorted x rest.0 rest.1.rises (λ value h. apart value (Contains-permutation rest.0 xs (x.0, value) (IsPermutation-sym xs rest.0 rest.1.same) h)) in (
      more.0,
      record { rises = more.1.rises; same = IsPermutation-trans (x ∷ xs) (x ∷ rest.0) more.0 (IsPermutation-cons x xs rest.0 rest.1.same) more.1.same },
    )

rest_once : (b : Bucket) (run : List Bucket) → IsOnce (b ∷ run) → IsOnce run
rest_once b run once = record { one = λ p q below below' key v w here there. let same = once.one (suc p) (suc q) (omega arith) (omega arith) key v w here there in omega (arith, same) }

distinct_of : (run : List Bucket) → IsOnce run → IsDistinct (taken_of run)
unfolding IsDistinct
distinct_of [] once = tt
distinct_of (None ∷ run) once = distinct_of run (rest_once None run once)
distinct_of (Some p ∷ run) once = (
  λ value h.
      let found = taken_from run (p.0, value) h in
      let same = once.one zero (suc found.0) (omega arith) (omega (arith, found.1)) p.0 p.1 value refl found.2 in absurd (omega (arith, same)),
  distinct_of run (rest_once (Some p) run once),
)

-- keys that stand once can be brought into rising order
pub pairs_sorted : (run : List Bucket) → IsOnce run → (pairs : List (ℕ × ℕ)) × Rises (keys_of pairs) × IsPermutation (taken_of run) pairs
pairs_sorted run once = let sorted = all_sorted (taken_of run) (distinct_of run once) in (sorted.0, sorted.1.rises, sorted.1.same)

-- 1 for a pair with the key
has_key : ℕ → ℕ × ℕ → ℕ
has_key key p = cond (eqb p.0 key) 1 0

has_key_1 : (key : ℕ) (p : ℕ × ℕ) → p.0 ≡ key → has_key key p ≡ 1
unfolding has_key
has_key_1 key p is = simp (eq-eqb p.0 key is)

key_is : (key : ℕ) (p : ℕ × ℕ) → 0 < has_key key p → p.0 ≡ key
unfolding has_key
key_is key p some = eqb-true p.0 key (grind arith)

has_key_few : (key : ℕ) (p : ℕ × ℕ) → has_key key p ≤ 1
unfolding has_key
has_key_few key p = grind arith

counts : (f : ℕ × ℕ → ℕ) (p : ℕ × ℕ) (xs : List (ℕ × ℕ)) → Contains xs p → f p ≤ sum_by f xs
counts f p [] (k, below, is) = absurd (omega arith)
counts f p (x ∷ xs) h =
    ⊎_elim
    (λ (same : x ≡ p). omega (arith, sum_by-cons f x xs, ap f same))
    (λ (later : Contains xs p). omega (arith, sum_by-cons f x xs, counts f p xs later))
    (contains_cases x p xs h)

counted : (f : ℕ × ℕ → ℕ) (xs : List (ℕ × ℕ)) → 0 < sum_by f xs → (p : ℕ × ℕ) × Contains xs p × (0 < f p)
counted f [] h = absurd (omega arith)
counted f (x ∷ xs) h =
    ⊎_elim
    (λ (some : 0 < f x). (x, contains_head x xs, some))
    (λ (none : f x ≤ 0). let later = counted f xs (omega (arith, sum_by-cons f x xs)) in (later.0, contains_cons x later.0 xs later.1, later.2))
    (cases_lt 0 (f x))

-- of two places with one key two are counted
counted_twice : (run : List Bucket) (p q key v w : ℕ) → p < q → q < length run → bucket_at run p ≡ Some (key, v) → bucket_at run q ≡ Some (key, w) → 2 ≤ sum_by (has_key key) (taken_of run)
counted_twice [] p q key v w less below here there = absurd (omega arith)
counted_twice (b ∷ run) p zero key v w less below here there = absurd (omega arith)
counted_twice (None ∷ run) zero (suc q) key v w less below here there = absurd cc
counted_twice (None ∷ run) (suc p) (suc q) key v w less below here there = counted_twice run p q key v w (omega arith) (omega arith) here there
counted_twice (Some x ∷ run) zero (suc q) key v w less below here there =
    let same : x ≡ (key, v) = cc in
    let first = has_key_1 key x (ap (λ (r : ℕ × ℕ). r.0) same) in
    let later = counts (has_key key) (key, w) (taken_of run) (taken_has run q (key, w) (omega arith) there) in
    omega (arith, sum_by-cons (has_key key) x (taken_of run), first, later, has_key_1 key (key, w) refl)
counted_twice (Some x ∷ run) (suc p) (suc q) key v w less below here there =
    let later = counted_twice run p q key v w (omega arith) (omega arith) here there in
    omega (arith, sum_by-cons (has_key key) x (taken_of run), later)

-- where keys rise, one at most
counted_once : (ys : List (ℕ × ℕ)) (key : ℕ) → Rises (keys_of ys) → sum_by (has_key key) ys ≤ 1
counted_once [] key rises = omega arith
counted_once (y ∷ ys) key rises =
    let later = counted_once ys key (rest_rises y ys rises) in
    let few = has_key_few key y in
    ⊎_elim
    (λ (some : 0 < has_key key y). ⊎_elim
    (λ (again : 0 < sum_by (has_key key) ys).
    let found = counted (has_key key) ys again in
    let above = All-contains (λ p. y.0 < p.0) ys found.0 (first_below y ys rises) found.1 in
    absurd (omega (arith, above, key_is key y some, key_is key found.0 found.2)))
    (λ (none : sum_by (has_key key) ys ≤ 0). omega (arith, sum_by-cons (has_key key) y ys, few, none))
    (cases_lt 0 (sum_by (has_key key) ys)))
    (λ (none : has_key key y ≤ 0). omega (arith, sum_by-cons (has_key key) y ys, later, none))
    (cases_lt 0 (has_key key y))

-- the keys of a run that spells a set or map stand once
pub once_spelled : (run : List Bucket) (pairs : List (ℕ × ℕ)) → SpellsRun run pairs → IsOnce run
once_spelled run pairs spelled = record {
  one = λ p q below below' key v w here there.
      let sums : sum_by (has_key key) pairs ≡ sum_by (has_key key) (taken_of run) = sum_by-IsPermutation (has_key key) (taken_of run) pairs spelled.same in
      let most = counted_once pairs key spelled.rises in
      ⊎_elim
      (λ (same : p ≡ q). same)
      (λ (other : (p < q) ⊎ (q < p)). ⊎_elim
      (λ (less : p < q). let two = counted_twice run p q key v w less below' here there in absurd (omega (arith, sums, most, two)))
      (λ (more : q < p). let two = counted_twice run q p key w v more below there here in absurd (omega (arith, sums, most, two)))
      other)
      (cases_order p q);
}
