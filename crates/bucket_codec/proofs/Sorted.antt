-- Lemmas on pairs by rising key: there is one order in which they stand.
use Rattle.std.proofs.Common.{◌≡◌, ℕ, suc, ◌+◌, ◌-◌, ◌<◌, ◌≤◌, List, [], ◌∷◌, length, Bool, true, false, cond, eqb, ◌&&◌, arith, refl, sym, ap, subst, ⊎_elim, get_or}
use Rattle.std.specs.List.{Contains, sum_by, AllAdjacentBelow}
use Rattle.std.specs.List.Sorted.{IsNonDecreasingBy, IsPermutation}
use Rattle.std.proofs.lemmas.Bool.{cases_lt, eq-eqb, eqb-true}
use Rattle.std.proofs.lemmas.List.{get_or-map, length-map}
use Rattle.std.proofs.lemmas.List.Kept.{AllPairs-from_increasing}
use Rattle.std.proofs.lemmas.List.Sorted.{sum_by-IsPermutation, IsPermutation-trans, IsPermutation-sym}
use Rattle.std.proofs.lemmas.List.Sums.{sum_by-cons}
use Rattle.row_model.specs.Row.{Rises}
use Rattle.bucket_codec.specs.Run.{keys_of, SpellsRun, Bucket, taken_of}
use Rattle.bucket_codec.proofs.Members.{contains_cons, contains_head, contains_cases}

-- whatever is counted of them, both lists have as much of it
record SameSums (xs ys : List (ℕ × ℕ)) : Type 0 where
  sums : (f : ℕ × ℕ → ℕ) → sum_by f xs ≡ sum_by f ys

-- a sum that is not 0 has an item that counts
counted : (f : ℕ × ℕ → ℕ) (xs : List (ℕ × ℕ)) → 0 < sum_by f xs → (p : ℕ × ℕ) × Contains xs p × (0 < f p)
counted f [] h = absurd (omega arith)
counted f (x ∷ xs) h =
    ⊎_elim
    (λ (some : 0 < f x). (x, contains_head x xs, some))
    (λ (none : f x ≤ 0). let later = counted f xs (omega (arith, sum_by-cons f x xs)) in (later.0, contains_cons x later.0 xs later.1, later.2))
    (cases_lt 0 (f x))

-- an item counts in the sum
counts : (f : ℕ × ℕ → ℕ) (p : ℕ × ℕ) (xs : List (ℕ × ℕ)) → Contains xs p → f p ≤ sum_by f xs
counts f p [] (k, below, is) = absurd (omega arith)
counts f p (x ∷ xs) h =
    ⊎_elim
    (λ (same : x ≡ p). omega (arith, sum_by-cons f x xs, ap f same))
    (λ (later : Contains xs p). omega (arith, sum_by-cons f x xs, counts f p xs later))
    (contains_cases x p xs h)

-- 1 for a pair alone
one_of : ℕ × ℕ → ℕ × ℕ → ℕ
one_of p q = cond (eqb p.0 q.0 && eqb p.1 q.1) 1 0

one_of_itself : (p : ℕ × ℕ) → one_of p p ≡ 1
unfolding one_of
one_of_itself p = simp (eq-eqb p.0 p.0 refl, eq-eqb p.1 p.1 refl)

both_true : (x y : Bool) → 0 < cond (x && y) 1 0 → (x ≡ true) × (y ≡ true)
both_true true true h = (refl, refl)
both_true true false h = absurd (omega arith)
both_true false y h = absurd (omega arith)

one_of_same : (p q : ℕ × ℕ) → 0 < one_of p q → p ≡ q
unfolding one_of
one_of_same (a, b) (c, d) h =
    let both = both_true (eqb a c) (eqb b d) h in
    let keys : a ≡ c = eqb-true a c both.0 in
    let values : b ≡ d = eqb-true b d both.1 in
    cc

-- a pair of the one list is in the other
shared : (xs ys : List (ℕ × ℕ)) (p : ℕ × ℕ) → SameSums xs ys → Contains ys p → Contains xs p
shared xs ys p same h =
    let some : 0 < sum_by (one_of p) xs = omega (arith, counts (one_of p) p ys h, one_of_itself p, same.sums (one_of p)) in
    let found = counted (one_of p) xs some in
    subst (λ q. Contains xs q) (sym (one_of_same p found.0 found.2)) found.1

-- the key of a pair that stands later is above the first
first_key : (y p : ℕ × ℕ) (ys : List (ℕ × ℕ)) → Rises (keys_of (y ∷ ys)) → Contains ys p → y.0 < p.0
first_key y p ys rises (k, below, is) =
    let above = rises 0 (suc k) 0 (omega arith) (omega (arith, length-map ys (λ (q : ℕ × ℕ). q.0))) in
    let there : get_or (keys_of ys) k 0 ≡ (get_or ys k p).0 = get_or-map (λ (q : ℕ × ℕ). q.0) ys k p 0 below in
    omega (arith, above, there, ap (λ (q : ℕ × ℕ). q.0) is)

first_key_least : (x p : ℕ × ℕ) (xs : List (ℕ × ℕ)) → IsNonDecreasingBy (λ q. q.0) (x ∷ xs) → Contains (x ∷ xs) p → x.0 ≤ p.0
first_key_least x p xs up (k, below, is) = omega (arith, up 0 k p (omega arith) below, ap (λ (q : ℕ × ℕ). q.0) is)

-- of the pairs that rise by key and those that do not fall, both with the same sums, each is the other
sorted_once : (xs ys : List (ℕ × ℕ)) → IsNonDecreasingBy (λ p. p.0) xs → Rises (keys_of ys) → SameSums xs ys → xs ≡ ys
sorted_once [] [] up rises same = refl
sorted_once [] (y ∷ ys) up rises same = absurd (omega (arith, same.sums (λ p. 1), sum_by-cons (λ (p : ℕ × ℕ). 1) y ys))
sorted_once (x ∷ xs) [] up rises same = absurd (omega (arith, same.sums (λ p. 1), sum_by-cons (λ (p : ℕ × ℕ). 1) x xs))
sorted_once (x ∷ xs) (y ∷ ys) up rises same =
    let back : SameSums (y ∷ ys) (x ∷ xs) = record { sums = λ f. sym (same.sums f) } in
    let x_in : Contains (y ∷ ys) x = shared (y ∷ ys) (x ∷ xs) x back (contains_head x xs) in
    let y_in : Contains (x ∷ xs) y = shared (x ∷ xs) (y ∷ ys) y same (contains_head y ys) in
    let least : x.0 ≤ y.0 = first_key_least x y xs up y_in in
    let head : x ≡ y = ⊎_elim (λ (e : y ≡ x). sym e) (λ (later : Contains ys x). absurd (omega (arith, first_key y x ys rises later))) (contains_cases y x ys x_in) in
    let rest : SameSums xs ys = record { sums = λ f. omega (arith, same.sums f, sum_by-cons f x xs, sum_by-cons f y ys, ap f head) } in
    let tail : xs ≡ ys =
    sorted_once xs ys (λ i j d a b. up (suc i) (suc j) d (omega arith) (omega arith)) (λ i j d a b. rises (suc i) (suc j) d (omega arith) (omega arith)) rest in
    cc

-- pairs that do not fall by key are those that rise in whose order they can be brought
pub sorted_is : (xs ys : List (ℕ × ℕ)) → IsNonDecreasingBy (λ p. p.0) xs → Rises (keys_of ys) → IsPermutation xs ys → xs ≡ ys
sorted_is xs ys up rises h = sorted_once xs ys up rises (record { sums = λ f. sym (sum_by-IsPermutation f xs ys h) })

-- what rises does not fall
pub rises_up : (xs : List (ℕ × ℕ)) → Rises (keys_of xs) → IsNonDecreasingBy (λ p. p.0) xs
rises_up xs rises i j d a b =
    let long = length-map xs (λ (q : ℕ × ℕ). q.0) in
    let here : get_or (keys_of xs) i 0 ≡ (get_or xs i d).0 = get_or-map (λ (q : ℕ × ℕ). q.0) xs i d 0 (omega arith) in
    let there : get_or (keys_of xs) j 0 ≡ (get_or xs j d).0 = get_or-map (λ (q : ℕ × ℕ). q.0) xs j d 0 b in
    ⊎_elim
    (λ (less : i < j). omega (arith, rises i j 0 less (omega arith), here, there))
    (λ (more : j ≤ i). let same : i ≡ j = omega arith in omega (arith, ap (λ k. (get_or xs k d).0) same))
    (cases_lt i j)

-- a run spells the set or map of one list of pairs
pub run_once : (run : List Bucket) (a b : List (ℕ × ℕ)) → SpellsRun run a → SpellsRun run b → a ≡ b
run_once run a b h k = sorted_is a b (rises_up a h.rises) k.rises (IsPermutation-trans a (taken_of run) b (IsPermutation-sym (taken_of run) a h.same) k.same)

-- keys each of which is above the one before it rise
pub rises_of : (pairs : List (ℕ × ℕ)) (count : ℕ) → length pairs ≤ count → AllAdjacentBelow (λ earlier later. earlier.0 < later.0) pairs count → Rises (keys_of pairs)
rises_of pairs count all adjacent = AllPairs-from_increasing (keys_of pairs) (λ k below.
    let long = length-map pairs (λ (q : ℕ × ℕ). q.0) in
    let here : get_or (keys_of pairs) k 0 ≡ (get_or pairs k (0, 0)).0 = get_or-map (λ (q : ℕ × ℕ). q.0) pairs k (0, 0) 0 (omega arith) in
    let there : get_or (keys_of pairs) (k + 1) 0 ≡ (get_or pairs (k + 1) (0, 0)).0 = get_or-map (λ (q : ℕ × ℕ). q.0) pairs (k + 1) (0, 0) 0 (omega arith) in
    omega (arith, adjacent k (0, 0) (omega arith), here, there))

-- and do not where one is not
pub not_rising : (pairs : List (ℕ × ℕ)) (place : ℕ) (d : ℕ × ℕ) → 1 ≤ place → place < length pairs → (get_or pairs place d).0 ≤ (get_or pairs (place - 1) d).0
    → Rises (keys_of pairs) → ⊥
not_rising pairs place d some below falls rises =
    let long = length-map pairs (λ (q : ℕ × ℕ). q.0) in
    let here : get_or (keys_of pairs) (place - 1) 0 ≡ (get_or pairs (place - 1) d).0 = get_or-map (λ (q : ℕ × ℕ). q.0) pairs (place - 1) d 0 (omega arith) in
    let there : get_or (keys_of pairs) place 0 ≡ (get_or pairs place d).0 = get_or-map (λ (q : ℕ × ℕ). q.0) pairs place d 0 below in
    omega (arith, rises (place - 1) place 0 (omega arith) (omega arith), here, there)
