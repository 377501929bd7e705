-- Lemmas on the rising lists of members by which sets of ordinals are seen.
use Rattle.std.proofs.Common.{◌≡◌, ℕ, ◌+◌, ◌<◌, ◌≤◌, suc, zero, Bool, true, false, List, [], ◌∷◌, ◌++◌, ◌⊎◌, Option, Some, None, get_or, refl, sym, ap, ◌∙◌, subst, inl, inr, arith, ltb, leb, zero-add}
use Rattle.std.specs.Prelude.{All, Contains, filter, find, nat_lt, nat_le}
use Rattle.std.specs.List.Sorted.{IsStrictlyIncreasing}
use Rattle.std.specs.Ordering.{nat_cmp}
use Rattle.std.specs.List.{range_with_len}
use Rattle.std.proofs.lemmas.Bool.{cases_Bool, cases_lt, cases_order, cond-true, cond-false, lt-ltb, le-ltb, ltb-true, le-leb, lt-leb}
use Rattle.std.proofs.lemmas.List.Elements.{All-contains, All-append, All-cons, All-weaker, filter_passes, Contains-append_cases, Contains-append_left, Contains-append_right}
use Rattle.std.proofs.lemmas.List.Kept.{AllPairs-from_increasing, IsStrictlyIncreasing-filter}
use Rattle.std.proofs.lemmas.List.FromFn.{length-range_with_len, get_or-range_with_len}
use Rattle.std.proofs.lemmas.Map.Keys.{sorted_tail, sorted_from_strictly_increasing, IsStrictlyIncreasing-from_sorted}
use Rattle.ordinal_set.specs.Ordinals.{members_below, with_ordinal, bound_of, least_from, IsNextMember, TellsNext}

-- ---- members of a list by its first one and the others

pub here : (x : ℕ) (xs : List ℕ) → Contains (x ∷ xs) x
here x xs = (0, omega arith, refl)

pub there : (x : ℕ) (xs : List ℕ) (n : ℕ) → Contains xs n → Contains (x ∷ xs) n
there x xs n (k, within, is) = (suc k, omega arith, is)

pub first_or_other : (x : ℕ) (xs : List ℕ) (n : ℕ) → Contains (x ∷ xs) n → (x ≡ n) ⊎ Contains xs n
first_or_other x xs n (zero, within, is) = inl is
first_or_other x xs n (suc k, within, is) = inr (k, omega arith, is)

-- ---- members of a filtered list

pub Contains-filter : (p : ℕ → Bool) (xs : List ℕ) (n : ℕ) → Contains (filter p xs) n → Contains xs n
Contains-filter p [] n h = h
Contains-filter p (x ∷ xs) n h =
    elim (cases_Bool (p x)) [
      | inl passes_x ↦
          let kept = subst (λ ys. Contains ys n) (cond-true (p x) (x ∷ filter p xs) (filter p xs) passes_x) h in
          elim (first_or_other x (filter p xs) n kept) [
            | inl is ↦ subst (λ y. Contains (x ∷ xs) y) is (here x xs)
            | inr other ↦ there x xs n (Contains-filter p xs n other)
          ]
      | inr fails_x ↦
          let left = subst (λ ys. Contains ys n) (cond-false (p x) (x ∷ filter p xs) (filter p xs) fails_x) h in
          there x xs n (Contains-filter p xs n left)
    ]

pub passes-from_filter : (p : ℕ → Bool) (xs : List ℕ) (n : ℕ) → Contains (filter p xs) n → p n ≡ true
passes-from_filter p xs n h = All-contains (λ m. p m ≡ true) (filter p xs) n (filter_passes p xs) h

pub Contains-kept : (p : ℕ → Bool) (xs : List ℕ) (n : ℕ) → Contains xs n → p n ≡ true → Contains (filter p xs) n
Contains-kept p [] n h passes = h
Contains-kept p (x ∷ xs) n h passes =
    elim (cases_Bool (p x)) [
      | inl passes_x ↦
          subst (λ ys. Contains ys n) (sym (cond-true (p x) (x ∷ filter p xs) (filter p xs) passes_x)) (elim (first_or_other x xs n h) [
            | inl is ↦ subst (λ y. Contains (x ∷ filter p xs) y) is (here x (filter p xs))
            | inr other ↦ there x (filter p xs) n (Contains-kept p xs n other passes)
          ])
      | inr fails_x ↦
          subst (λ ys. Contains ys n) (sym (cond-false (p x) (x ∷ filter p xs) (filter p xs) fails_x)) (elim (first_or_other x xs n h) [
            | inl is ↦ let fails : p n ≡ false = subst (λ m. p m ≡ false) is fails_x in absurd cc
            | inr other ↦ Contains-kept p xs n other passes
          ])
    ]

-- ---- rising lists

pub rising-head : (x : ℕ) (xs : List ℕ) → IsStrictlyIncreasing (x ∷ xs) → All (λ y. x < y) xs
rising-head x xs rising k d within = AllPairs-from_increasing (x ∷ xs) rising 0 (suc k) d (omega arith) (omega arith)

pub rising-tail : (x : ℕ) (xs : List ℕ) → IsStrictlyIncreasing (x ∷ xs) → IsStrictlyIncreasing xs
rising-tail x xs rising =
    IsStrictlyIncreasing-from_sorted xs (sorted_tail nat_cmp x xs (sorted_from_strictly_increasing (x ∷ xs) rising))

rising-cons : (x : ℕ) (xs : List ℕ) → All (λ y. x < y) xs → IsStrictlyIncreasing xs → IsStrictlyIncreasing (x ∷ xs)
rising-cons x xs above rising zero within = above 0 0 (omega arith)
rising-cons x xs above rising (suc k) within =
    let next : suc (k + 1) ≡ suc k + 1 = omega arith in
    subst (λ j. get_or xs k 0 < get_or (x ∷ xs) j 0) next (rising k (omega arith))

rising-append : (xs ys : List ℕ) → IsStrictlyIncreasing xs → IsStrictlyIncreasing ys → All (λ x. All (λ y. x < y) ys) xs → IsStrictlyIncreasing (xs ++ ys)
rising-append [] ys front back apart = back
rising-append (x ∷ xs) ys front back apart =
    rising-cons
    x
    (xs ++ ys)
    (All-append (λ y. x < y) xs ys (rising-head x xs front) (apart 0 x (omega arith)))
    (rising-append xs ys (rising-tail x xs front) back (λ k d within. apart (suc k) d (omega arith)))

same_first : (x : ℕ) (xs : List ℕ) (y : ℕ) (ys : List ℕ) → IsStrictlyIncreasing (x ∷ xs) → IsStrictlyIncreasing (y ∷ ys) → Contains (y ∷ ys) x → Contains (x ∷ xs) y → x ≡ y
same_first x xs y ys rising_xs rising_ys has_x has_y =
    elim (first_or_other y ys x has_x) [
      | inl is ↦ sym is
      | inr later ↦
          let after : y < x = All-contains (λ m. y < m) ys x (rising-head y ys rising_ys) later in
          elim (first_or_other x xs y has_y) [
            | inl is ↦ is
            | inr other ↦
                let before : x < y = All-contains (λ m. x < m) xs y (rising-head x xs rising_xs) other in
                absurd (omega arith)
          ]
    ]

same_others : (x : ℕ) (xs : List ℕ) (y : ℕ) (ys : List ℕ) → IsStrictlyIncreasing (x ∷ xs) → x ≡ y → (n : ℕ) → Contains xs n → Contains (y ∷ ys) n → Contains ys n
same_others x xs y ys rising same n has_n among =
    elim (first_or_other y ys n among) [
      | inl is ↦
          let above : x < n = All-contains (λ m. x < m) xs n (rising-head x xs rising) has_n in
          absurd (omega arith)
      | inr other ↦ other
    ]

pub no_member : (n : ℕ) → Contains [] n → ⊥
no_member n (k, within, is) = omega arith

-- two rising lists with the same members are one
pub same_rising : (xs ys : List ℕ) → IsStrictlyIncreasing xs → IsStrictlyIncreasing ys → ((n : ℕ) → Contains xs n → Contains ys n) → ((n : ℕ) → Contains ys n → Contains xs n) → xs ≡ ys
same_rising [] [] rising_xs rising_ys forth back = refl
same_rising [] (y ∷ ys) rising_xs rising_ys forth back = absurd (no_member y (back y (here y ys)))
same_rising (x ∷ xs) [] rising_xs rising_ys forth back = absurd (no_member x (forth x (here x xs)))
same_rising (x ∷ xs) (y ∷ ys) rising_xs rising_ys forth back =
    let first = same_first x xs y ys rising_xs rising_ys (forth x (here x xs)) (back y (here y ys)) in
    let others =
    same_rising
    xs
    ys
    (rising-tail x xs rising_xs)
    (rising-tail y ys rising_ys)
    (λ n h. same_others x xs y ys rising_xs first n h (forth n (there x xs n h)))
    (λ n h. same_others y ys x xs rising_ys (sym first) n h (back n (there y ys n h))) in
    ap (λ m. m ∷ xs) first ∙ ap (λ ms. y ∷ ms) others

-- ---- the numbers below a limit

pub rising-range : (a n : ℕ) → IsStrictlyIncreasing (range_with_len a n)
rising-range a n k within =
    let len = length-range_with_len a n in
    let first = get_or-range_with_len a n k 0 (omega arith) in
    let second = get_or-range_with_len a n (k + 1) 0 (omega arith) in
    omega arith

pub Contains-range : (n m : ℕ) → m < n → Contains (range_with_len 0 n) m
Contains-range n m h =
    (m, subst (λ k. m < k) (sym (length-range_with_len 0 n)) h, get_or-range_with_len 0 n m m h ∙ zero-add m)

-- ---- the members below a number

pub members_below-none : (set : List ℕ) → members_below 0 set ≡ []
unfolding members_below
members_below-none [] = refl
members_below-none (m ∷ rest) =
    cond-false (ltb m 0) (m ∷ members_below 0 rest) (members_below 0 rest) (le-ltb m 0 (omega arith)) ∙ members_below-none rest

pub members_below-all : (o : ℕ) (set : List ℕ) → ((m : ℕ) → Contains set m → m < o) → members_below o set ≡ set
unfolding members_below
members_below-all o [] below = refl
members_below-all o (m ∷ rest) below =
    cond-true (ltb m o) (m ∷ members_below o rest) (members_below o rest) (lt-ltb m o (below m (here m rest)))
    ∙ ap (λ ms. m ∷ ms) (members_below-all o rest (λ n h. below n (there m rest n h)))

-- up to the next member there is no other
pub members_below-next : (o next : ℕ) (set : List ℕ) → IsStrictlyIncreasing set → IsNextMember o set next → members_below (next + 1) set ≡ members_below o set ++ next ∷ []
unfolding members_below
members_below-next o next set rising is =
    let below = λ (limit m : ℕ). ltb m limit in
    let front = filter (below o) set in
    same_rising
    (filter (below (next + 1)) set)
    (front ++ next ∷ [])
    (IsStrictlyIncreasing-filter (below (next + 1)) set rising)
    (rising-append
    front
    (next ∷ [])
    (IsStrictlyIncreasing-filter (below o) set rising)
    (rising-cons next [] (λ k d within. absurd (omega arith)) (λ k within. absurd (omega arith)))
    (All-weaker
    (λ m. below o m ≡ true)
    (λ m. All (λ y. m < y) (next ∷ []))
    (λ m passes. All-cons (λ y. m < y) next [] (let before = ltb-true m o passes in let from = is.from in omega arith) (λ k d within. absurd (omega arith)))
    front
    (filter_passes (below o) set)))
    (λ m h.
    let member = Contains-filter (below (next + 1)) set m h in
    let within = ltb-true m (next + 1) (passes-from_filter (below (next + 1)) set m h) in
    elim (cases_lt m o) [
      | inl before ↦ Contains-append_left front (next ∷ []) m (Contains-kept (below o) set m member (lt-ltb m o before))
      | inr after ↦
          let reached = is.least m member after in
          let same : next ≡ m = omega arith in
          subst (λ n. Contains (front ++ next ∷ []) n) same (Contains-append_right front (next ∷ []) next (here next []))
    ])
    (λ m h.
    elim (Contains-append_cases front (next ∷ []) m h) [
      | inl before ↦
          let small = ltb-true m o (passes-from_filter (below o) set m before) in
          let from = is.from in
          Contains-kept (below (next + 1)) set m (Contains-filter (below o) set m before) (lt-ltb m (next + 1) (omega arith))
      | inr last ↦
          elim (first_or_other next [] m last) [
            | inl same ↦
                Contains-kept (below (next + 1)) set m (subst (λ n. Contains set n) same is.member) (lt-ltb m (next + 1) (omega arith))
            | inr none ↦ absurd (no_member m none)
          ]
    ])

-- ---- the next member

pub least_from-some : (o next : ℕ) (set : List ℕ) → IsStrictlyIncreasing set → IsNextMember o set next → least_from o set ≡ Some next
unfolding least_from
least_from-some o next [] rising is = absurd (no_member next is.member)
least_from-some o next (m ∷ rest) rising is =
    elim (cases_lt m o) [
      | inl before ↦
          cond-false (leb o m) (Some m) (find (λ n. nat_le o n) rest) (lt-leb o m before)
          ∙ least_from-some o next rest (rising-tail m rest rising) (record {
            member =
                elim (first_or_other m rest next is.member) [
                  | inl same ↦ let from = is.from in absurd (omega arith)
                  | inr other ↦ other
                ];
            from = is.from;
            least = λ n h. is.least n (there m rest n h);
          })
      | inr from ↦
          let near : next ≤ m = is.least m (here m rest) from in
          let first : m ≡ next =
          elim (first_or_other m rest next is.member) [
            | inl same ↦ same
            | inr other ↦
                let above : m < next = All-contains (λ n. m < n) rest next (rising-head m rest rising) other in
                absurd (omega arith)
          ] in
          cond-true (leb o m) (Some m) (find (λ n. nat_le o n) rest) (le-leb o m from) ∙ ap Some first
    ]

pub least_from-none : (o : ℕ) (set : List ℕ) → ((m : ℕ) → Contains set m → m < o) → least_from o set ≡ None
unfolding least_from
least_from-none o [] below = refl
least_from-none o (m ∷ rest) below =
    cond-false (leb o m) (Some m) (find (λ n. nat_le o n) rest) (lt-leb o m (below m (here m rest)))
    ∙ least_from-none o rest (λ n h. below n (there m rest n h))

-- a look-up's answer by what it tells
pub least_from-told : (o : ℕ) (set : List ℕ) (answer : Option ℕ) → IsStrictlyIncreasing set → TellsNext o set answer → answer ≡ least_from o set
least_from-told o set None rising tells = sym (least_from-none o set tells)
least_from-told o set (Some next) rising tells = sym (least_from-some o next set rising tells)

-- ---- the bound

pub bound_of-above : (set : List ℕ) (m : ℕ) → Contains set m → m < bound_of set
unfolding bound_of
bound_of-above [] m h = absurd (no_member m h)
bound_of-above (x ∷ rest) m h =
    elim (first_or_other x rest m h) [
      | inl same ↦ omega arith
      | inr other ↦ let above = bound_of-above rest m other in omega arith
    ]

pub bound_of-le : (set : List ℕ) (limit : ℕ) → ((m : ℕ) → Contains set m → m < limit) → bound_of set ≤ limit
unfolding bound_of
bound_of-le [] limit below = omega arith
bound_of-le (x ∷ rest) limit below =
    let first = below x (here x rest) in
    let others = bound_of-le rest limit (λ m h. below m (there x rest m h)) in
    omega arith

-- the bound is 0, or one past a member
pub bound_of-member : (set : List ℕ) → (bound_of set ≡ 0) ⊎ ((m : ℕ) × (bound_of set ≡ m + 1) × Contains set m)
unfolding bound_of
bound_of-member [] = inl refl
bound_of-member (x ∷ rest) = inr (greatest (bound_of-member rest))
  where
    greatest : (bound_of rest ≡ 0) ⊎ ((m : ℕ) × (bound_of rest ≡ m + 1) × Contains rest m) → (m : ℕ) × (bound_of (x ∷ rest) ≡ m + 1) × Contains (x ∷ rest) m
    greatest (inl none) = (x, omega arith, here x rest)
    greatest (inr (m, is, member)) =
        elim (cases_lt m x) [
          | inl below ↦ (x, omega arith, here x rest)
          | inr above ↦ (m, omega arith, there x rest m member)
        ]

-- ---- a set with one ordinal put in

pub Contains-with_ordinal_cases : (o : ℕ) (set : List ℕ) (m : ℕ) → Contains (with_ordinal o set) m → Contains set m ⊎ (o ≡ m)
unfolding with_ordinal members_below
Contains-with_ordinal_cases o set m h =
    elim (Contains-append_cases (filter (λ n. nat_lt n o) set) (o ∷ filter (λ n. nat_lt o n) set) m h) [
      | inl before ↦ inl (Contains-filter (λ n. nat_lt n o) set m before)
      | inr from ↦
          elim (first_or_other o (filter (λ n. nat_lt o n) set) m from) [
            | inl same ↦ inr same
            | inr after ↦ inl (Contains-filter (λ n. nat_lt o n) set m after)
          ]
    ]

pub Contains-with_ordinal_itself : (o : ℕ) (set : List ℕ) → Contains (with_ordinal o set) o
unfolding with_ordinal members_below
Contains-with_ordinal_itself o set =
    Contains-append_right (filter (λ n. nat_lt n o) set) (o ∷ filter (λ n. nat_lt o n) set) o (here o (filter (λ n. nat_lt o n) set))

pub Contains-with_ordinal_kept : (o : ℕ) (set : List ℕ) (m : ℕ) → Contains set m → Contains (with_ordinal o set) m
unfolding with_ordinal members_below
Contains-with_ordinal_kept o set m h =
    let front = filter (λ n. nat_lt n o) set in
    let behind = filter (λ n. nat_lt o n) set in
    elim (cases_order m o) [
      | inl same ↦ subst (λ n. Contains (front ++ o ∷ behind) n) (sym same) (Contains-append_right front (o ∷ behind) o (here o behind))
      | inr other ↦
          elim other [
            | inl before ↦ Contains-append_left front (o ∷ behind) m (Contains-kept (λ n. nat_lt n o) set m h (lt-ltb m o before))
            | inr after ↦
                Contains-append_right front (o ∷ behind) m (there o behind m (Contains-kept (λ n. nat_lt o n) set m h (lt-ltb o m after)))
          ]
    ]

pub rising-with_ordinal : (o : ℕ) (set : List ℕ) → IsStrictlyIncreasing set → IsStrictlyIncreasing (with_ordinal o set)
unfolding with_ordinal members_below
rising-with_ordinal o set rising =
    let front = filter (λ n. nat_lt n o) set in
    let behind = filter (λ n. nat_lt o n) set in
    let after : All (λ m. o < m) behind =
    All-weaker (λ m. ltb o m ≡ true) (λ m. o < m) (λ m passes. ltb-true o m passes) behind (filter_passes (λ n. nat_lt o n) set) in
    rising-append
    front
    (o ∷ behind)
    (IsStrictlyIncreasing-filter (λ n. nat_lt n o) set rising)
    (rising-cons o behind after (IsStrictlyIncreasing-filter (λ n. nat_lt o n) set rising))
    (All-weaker
    (λ m. ltb m o ≡ true)
    (λ m. All (λ y. m < y) (o ∷ behind))
    (λ m passes.
    let before = ltb-true m o passes in
    All-cons (λ y. m < y) o behind before (All-weaker (λ y. o < y) (λ y. m < y) (λ y h. omega arith) behind after))
    front
    (filter_passes (λ n. nat_lt n o) set))
