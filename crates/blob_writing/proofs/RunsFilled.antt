-- The run of buckets into which pairs are put one after another spells them.
use Rattle.std.proofs.Common.{◌≡◌, ◌≢◌, ℕ, zero, suc, ◌+◌, ◌-◌, ◌*◌, ◌/◌, ◌%◌, ◌<◌, ◌≤◌, ◌⊎◌, List, [], ◌∷◌, ◌++◌, length, map, set, get_or, Bool, true, false, Option, Some, None, IsSome, inl, inr, arith, refl, sym, ap, subst, append-nil, ⊎_elim, ◌∙◌}
use Rattle.std.specs.Prelude.{All, find, fold, is_none, option_map, replicate, unwrap_or}
use Rattle.std.specs.Int.{IsPowerOfTwo}
use Rattle.std.specs.List.{range_with_len}
use Rattle.std.specs.List.Sorted.{IsPermutation}
use Rattle.std.proofs.Math.Nat.{add-mod_right, mod-eq_of_lt, mod-lt}
use Rattle.std.proofs.lemmas.Bool.{cases_lt, cases_order, cond-true, cond-false}
use Rattle.std.proofs.lemmas.List.{get_or-set_same, get_or-set_other, length-set, append_assoc}
use Rattle.std.proofs.lemmas.List.Sorted.{All-permutation, IsPermutation-refl, IsPermutation-sym, IsPermutation-trans, IsPermutation-cons, IsPermutation-to_front, IsPermutation-middle, length_permutation}
use Rattle.bit_array.specs.Digits.{digit_count}
use Rattle.bit_array.proofs.DigitCounts.{digit_count-holds}
use Rattle.row_model.specs.Row.{Rises}
use Rattle.bucket_codec.specs.BucketCount.{bucket_count}
use Rattle.bucket_codec.specs.Filled.{IsFilled, IsFree}
use Rattle.bucket_codec.specs.Hash.{hash_of}
use Rattle.bucket_codec.specs.Inserted.{first_empty, inserted, with_pair}
use Rattle.bucket_codec.specs.Run.{Bucket, bucket_at, taken_of, keys_of, place_from, IsPairInRange, IsReached, SpellsRun}

-- ---- one more pair

-- what the taken buckets hold, with one more taken
taken_set : (run : List Bucket) (place : ℕ) (pair : ℕ × ℕ) → place < length run → bucket_at run place ≡ None → IsPermutation (pair ∷ taken_of run) (taken_of (set run place (Some pair)))
taken_set [] place pair below empty = absurd (omega arith)
taken_set (None ∷ run) zero pair below empty = IsPermutation-refl (pair ∷ taken_of run)
taken_set (Some p ∷ run) zero pair below empty = absurd cc
taken_set (None ∷ run) (suc place) pair below empty = taken_set run place pair (omega arith) empty
taken_set (Some p ∷ run) (suc place) pair below empty =
    IsPermutation-trans (pair ∷ p ∷ taken_of run) (p ∷ pair ∷ taken_of run) (p ∷ taken_of (set run place (Some pair)))
    (IsPermutation-sym (p ∷ pair ∷ taken_of run) (pair ∷ p ∷ taken_of run) (IsPermutation-middle (p ∷ []) pair (taken_of run)))
    (IsPermutation-cons p (pair ∷ taken_of run) (taken_of (set run place (Some pair))) (taken_set run place pair (omega arith) empty))

-- a taken bucket stays taken
stays : (run : List Bucket) (place q : ℕ) (pair : ℕ × ℕ) → place < length run → IsSome (bucket_at run q) → IsSome (bucket_at (set run place (Some pair)) q)
stays run place q pair below some =
    ⊎_elim
    (λ (same : q ≡ place). subst (λ b. IsSome b) (sym (ap (bucket_at (set run place (Some pair))) same ∙ get_or-set_same run place (Some pair) None below)) refl)
    (λ (apart : (q < place) ⊎ (place < q)).
    let other : q ≢ place = ⊎_elim (λ (l : q < place) e. omega arith) (λ (m : place < q) e. omega arith) apart in
    subst (λ b. IsSome b) (sym (get_or-set_other run place q (Some pair) None other)) some)
    (cases_order q place)

-- and a key that is reached stays so
reached_stays : (run : List Bucket) (place q key : ℕ) (pair : ℕ × ℕ) → place < length run → IsReached run key q → IsReached (set run place (Some pair)) key q
reached_stays run place q key pair below reached =
    let long = length-set run place (Some pair) in
    record {
      steps = reached.steps;
      within = omega (arith, reached.within, long);
      ends = ap (λ n. place_from n key reached.steps) long ∙ reached.ends;
      full = λ step less.
          subst (λ n. IsSome (bucket_at (set run place (Some pair)) (place_from n key step))) (sym long)
          (stays run place (place_from (length run) key step) pair below (reached.full step less));
    }

filled_more : (run : List Bucket) (pairs : List (ℕ × ℕ)) (key value place : ℕ) → IsFilled run pairs → IsFree run key place → IsFilled (set run place (Some (key, value))) (pairs ++ (key, value) ∷ [])
filled_more run pairs key value place filled free = record {
  same =
      let more = taken_set run place (key, value) free.inside free.empty in
      let front = IsPermutation-cons (key, value) (taken_of run) pairs filled.same in
      let back = IsPermutation-to_front pairs (key, value) in
      IsPermutation-trans (taken_of (set run place (Some (key, value)))) ((key, value) ∷ taken_of run) (pairs ++ (key, value) ∷ [])
      (IsPermutation-sym ((key, value) ∷ taken_of run) (taken_of (set run place (Some (key, value)))) more)
      (IsPermutation-trans ((key, value) ∷ taken_of run) ((key, value) ∷ pairs) (pairs ++ (key, value) ∷ []) front
      (IsPermutation-sym (pairs ++ (key, value) ∷ []) ((key, value) ∷ pairs) back));
  reached = λ q below k v is. ⊎_elim
      (λ (same : q ≡ place).
      let here : bucket_at (set run place (Some (key, value))) q ≡ Some (key, value) =
      ap (bucket_at (set run place (Some (key, value)))) same ∙ get_or-set_same run place (Some (key, value)) None free.inside in
      let both : Some (key, value) ≡ Some (k, v) = sym here ∙ is in
      let pair : (key, value) ≡ (k, v) = cc in
      subst (λ x. IsReached (set run place (Some (key, value))) x q) (ap (λ (x : ℕ × ℕ). x.0) pair)
      (subst (λ x. IsReached (set run place (Some (key, value))) key x) (sym same) (reached_stays run place place key (key, value) free.inside free.reached)))
      (λ (apart : (q < place) ⊎ (place < q)).
      let other : q ≢ place = ⊎_elim (λ (l : q < place) e. omega arith) (λ (m : place < q) e. omega arith) apart in
      let before : bucket_at run q ≡ Some (k, v) = sym (get_or-set_other run place q (Some (key, value)) None other) ∙ is in
      reached_stays run place q k (key, value) free.inside (filled.reached q (omega (arith, below, length-set run place (Some (key, value)))) k v before))
      (cases_order q place);
}

-- ---- where it goes

all_taken : (run : List Bucket) → ((q : ℕ) → q < length run → IsSome (bucket_at run q)) → length (taken_of run) ≡ length run
all_taken [] all = refl
all_taken (None ∷ run) all = let first = all 0 (omega arith) in absurd cc
all_taken (Some p ∷ run) all = let rest = all_taken run (λ q below. all (suc q) (omega arith)) in omega (arith, rest)

-- so many steps from a home lead to each place of a run
steps_to : (size home place : ℕ) → home < size → place < size → (steps : ℕ) × (steps < size) × ((home + steps) % size ≡ place)
steps_to size home place inside below =
    elim (cases_lt place home) [
      | inl behind ↦
          let round : home + (place + size - home) ≡ place + size = omega arith in
          (place + size - home, omega arith, ap (λ (n : ℕ). n % size) round ∙ add-mod_right place size ∙ mod-eq_of_lt below)
      | inr ahead ↦
          let there : home + (place - home) ≡ place = omega arith in
          (place - home, omega arith, ap (λ (n : ℕ). n % size) there ∙ mod-eq_of_lt below)
    ]

abbrev ArePassed : List Bucket → ℕ → ℕ → Type 0
ArePassed run key count = (step : ℕ) → step < count → IsSome (bucket_at run (place_from (length run) key step))

abbrev HasFree : List Bucket → ℕ → Type 0
HasFree run key = (place : ℕ) × IsFree run key place

-- the next bucket on the way
one_step : (run : List Bucket) (key count : ℕ) (b : Bucket) → bucket_at run (place_from (length run) key count) ≡ b → count < length run → ArePassed run key count
    → HasFree run key ⊎ ArePassed run key (suc count)
one_step run key count None is below passed =
    inl (
      place_from (length run) key count,
      record {
        inside = mod-lt (hash_of key % length run + count) (omega arith);
        empty = is;
        reached = record { steps = count; within = below; ends = refl; full = passed };
      },
    )
one_step run key count (Some pair) is below passed =
    inr (λ step less.
    elim (cases_lt step count) [
      | inl before ↦ passed step before
      | inr last ↦
          let same : count ≡ step = omega arith in
          subst (λ n. IsSome (bucket_at run (place_from (length run) key n))) same (subst (λ (b : Bucket). IsSome b) (sym is) refl)
    ])

walk : (run : List Bucket) (key count : ℕ) → count ≤ length run → HasFree run key ⊎ ArePassed run key count
walk run key zero within = inr (λ step less. absurd (omega arith))
walk run key (suc count) within =
    ⊎_elim
    (λ (found : HasFree run key). inl found)
    (λ (passed : ArePassed run key count). one_step run key count (bucket_at run (place_from (length run) key count)) refl (omega arith) passed)
    (walk run key count (omega arith))

free_place : (run : List Bucket) (key : ℕ) → length (taken_of run) < length run → HasFree run key
free_place run key room =
    ⊎_elim
    (λ (found : HasFree run key). found)
    (λ (passed : ArePassed run key (length run)).
    let home : hash_of key % length run < length run = mod-lt (hash_of key) (omega arith) in
    let full = all_taken run (λ q below. let to = steps_to (length run) (hash_of key % length run) q home below in subst (λ n. IsSome (bucket_at run n)) to.2 (passed to.0 to.1)) in
    absurd (omega (arith, full)))
    (walk run key (length run) (omega arith))

-- ---- the first empty bucket is found

first_found : (f : ℕ → ℕ) (test : ℕ → Bool) (start count steps : ℕ) → start ≤ steps → steps < start + count → test (f steps) ≡ true
    → ((step : ℕ) → start ≤ step → step < steps → test (f step) ≡ false) → find test (map f (range_with_len start count)) ≡ Some (f steps)
first_found f test start zero steps above below passes before = absurd (omega arith)
first_found f test start (suc count) steps above below passes before =
    ⊎_elim
    (λ (later : start < steps).
    cond-false (test (f start)) (Some (f start)) (find test (map f (range_with_len (start + 1) count))) (before start (omega arith) later)
    ∙ first_found f test (start + 1) count steps (omega arith) (omega arith) passes (λ step from less. before step (omega arith) less))
    (λ (here : steps ≤ start).
    let same : start ≡ steps = omega arith in
    cond-true (test (f start)) (Some (f start)) (find test (map f (range_with_len (start + 1) count))) (ap (λ s. test (f s)) same ∙ passes) ∙ ap (λ s. Some (f s)) same)
    (cases_lt start steps)

none_passes : (b : Bucket) → b ≡ None → is_none b ≡ true
none_passes b is = ap (λ (x : Bucket). is_none x) is

some_fails : (b : Bucket) → IsSome b → is_none b ≡ false
some_fails None some = absurd cc
some_fails (Some p) some = refl

pair_taken : (run : List Bucket) (key value place : ℕ) → IsFree run key place → with_pair run (key, value) ≡ set run place (Some (key, value))
pair_taken run key value place free =
    let found : first_empty run key ≡ Some place =
    first_found (place_from (length run) key) (λ at. is_none (bucket_at run at)) 0 (length run) free.reached.steps (omega arith) (omega (arith, free.reached.within))
    (none_passes (bucket_at run (place_from (length run) key free.reached.steps)) (ap (bucket_at run) free.reached.ends ∙ free.empty))
    (λ step from less. some_fails (bucket_at run (place_from (length run) key step)) (free.reached.full step less))
    ∙ ap (λ at. Some at) free.reached.ends in
    ap (λ (o : Option ℕ). unwrap_or (option_map (λ at. set run at (Some (key, value))) o) run) found

-- ---- all pairs

record IsRun (run : List Bucket) (size : ℕ) (pairs : List (ℕ × ℕ)) : Type 0 where
  long : length run ≡ size
  filled : IsFilled run pairs

put_all : (run : List Bucket) (size : ℕ) (before pairs : List (ℕ × ℕ)) → IsRun run size before → length before + length pairs < size → IsRun (fold with_pair run pairs) size (before ++ pairs)
put_all run size before [] is room = record { long = is.long; filled = subst (IsFilled run) (sym (append-nil before)) is.filled }
put_all run size before ((key, value) ∷ rest) is room =
    let few = length_permutation (taken_of run) before is.filled.same in
    let free = free_place run key (omega (arith, few, is.long)) in
    let more = filled_more run before key value free.0 is.filled free.1 in
    let put = pair_taken run key value free.0 free.1 in
    let next : IsRun (with_pair run (key, value)) size (before ++ (key, value) ∷ []) =
    record {
      long = ap (λ (r : List Bucket). length r) put ∙ length-set run free.0 (Some (key, value)) ∙ is.long;
      filled = subst (λ (r : List Bucket). IsFilled r (before ++ (key, value) ∷ [])) (sym put) more;
    } in
    let all = put_all (with_pair run (key, value)) size (before ++ (key, value) ∷ []) rest next (omega (arith, room, one_longer before (key, value))) in
    subst (λ (ps : List (ℕ × ℕ)). IsRun (fold with_pair (with_pair run (key, value)) rest) size ps) (append_assoc before ((key, value) ∷ []) rest) all
  where
    one_longer : (xs : List (ℕ × ℕ)) (x : ℕ × ℕ) → length (xs ++ x ∷ []) ≡ length xs + 1
    one_longer [] x = refl
    one_longer (y ∷ xs) x = let rest = one_longer xs x in omega (arith, rest)

no_bucket_taken : (size : ℕ) → taken_of (replicate size None) ≡ []
no_bucket_taken zero = refl
no_bucket_taken (suc size) = no_bucket_taken size

all_empty : (size q : ℕ) → bucket_at (replicate size None) q ≡ None
all_empty zero q = refl
all_empty (suc size) zero = refl
all_empty (suc size) (suc q) = all_empty size q

long_empty : (size : ℕ) → length {A = Bucket} (replicate size None) ≡ size
long_empty zero = refl
long_empty (suc size) = ap suc (long_empty size)

begun : (size : ℕ) → IsRun (replicate size None) size []
begun size = record {
  long = long_empty size;
  filled = record {
    same = subst (λ l. IsPermutation l []) (sym (no_bucket_taken size)) (IsPermutation-refl []);
    reached = λ q below k v is. let empty = all_empty size q in absurd (let e : None ≡ Some (k, v) = sym empty ∙ is in cc);
  };
}

is_run : (size : ℕ) (pairs : List (ℕ × ℕ)) → length pairs < size → IsRun (inserted size pairs) size pairs
is_run size pairs few = put_all (replicate size None) size [] pairs (begun size) (omega arith)

pub length-inserted : (size : ℕ) (pairs : List (ℕ × ℕ)) → length pairs < size → length (inserted size pairs) ≡ size
length-inserted size pairs few = (is_run size pairs few).long

-- ---- the run that is written

pub more_buckets : (n : ℕ) → n < bucket_count n
unfolding bucket_count
more_buckets zero = omega arith
more_buckets (suc zero) = omega arith
more_buckets (suc (suc zero)) = omega arith
more_buckets (suc (suc (suc n))) = omega (arith, digit_count-holds (10 * suc (suc (suc n)) / 7 - 1))

power_buckets : (n : ℕ) → IsPowerOfTwo (bucket_count n)
unfolding bucket_count
power_buckets zero = (0, refl)
power_buckets (suc zero) = (1, refl)
power_buckets (suc (suc zero)) = (2, refl)
power_buckets (suc (suc (suc n))) = (digit_count (10 * suc (suc (suc n)) / 7 - 1), refl)

empty_place : (run : List Bucket) → length (taken_of run) < length run → (place : ℕ) × (place < length run) × (bucket_at run place ≡ None)
empty_place [] few = absurd (omega arith)
empty_place (None ∷ run) few = (zero, omega arith, refl)
empty_place (Some p ∷ run) few = let later = empty_place run (omega arith) in (suc later.0, omega (arith, later.1), later.2)

pub run_spells : (pairs : List (ℕ × ℕ)) → All IsPairInRange pairs → Rises (keys_of pairs) → SpellsRun (inserted (bucket_count (length pairs)) pairs) pairs
run_spells pairs ranges rises =
    let is = is_run (bucket_count (length pairs)) pairs (more_buckets (length pairs)) in
    record {
      power = subst IsPowerOfTwo (sym is.long) (power_buckets (length pairs));
      room = empty_place (inserted (bucket_count (length pairs)) pairs)
          (omega (arith, length_permutation (taken_of (inserted (bucket_count (length pairs)) pairs)) pairs is.filled.same, is.long, more_buckets (length pairs)));
      reached = is.filled.reached;
      rises = rises;
      same = is.filled.same;
      ranges = ranges;
    }

-- what holds of each pair holds of what each bucket has
abbrev pub OfBucket : (ℕ × ℕ → Type 0) → Bucket → Type 0
OfBucket P None = Unit {0}
OfBucket P (Some pair) = P pair

each_bucket : (P : ℕ × ℕ → Type 0) (run : List Bucket) → All P (taken_of run) → (k : ℕ) (d : Bucket) → k < length run → OfBucket P (get_or run k d)
each_bucket P [] all k d inside = absurd (omega arith)
each_bucket P (None ∷ run) all zero d inside = tt
each_bucket P (None ∷ run) all (suc k) d inside = each_bucket P run all k d (omega arith)
each_bucket P (Some pair ∷ run) all zero d inside = all 0 pair (omega arith)
each_bucket P (Some pair ∷ run) all (suc k) d inside = each_bucket P run (λ i e below. all (suc i) e (omega arith)) k d (omega arith)

pub each_inserted : (P : ℕ × ℕ → Type 0) (size : ℕ) (pairs : List (ℕ × ℕ)) → length pairs < size → All P pairs → All (OfBucket P) (inserted size pairs)
each_inserted P size pairs few all =
    let same = (is_run size pairs few).filled.same in
    each_bucket P (inserted size pairs) (All-permutation P pairs (taken_of (inserted size pairs)) (IsPermutation-sym (taken_of (inserted size pairs)) pairs same) all)
