-- Lemmas on runs as they are written: what a bucket that is put changes, and that the pairs put in stay reached.
use Rattle.std.proofs.Common.{◌≡◌, ◌≢◌, ℕ, zero, suc, ◌+◌, ◌<◌, ◌≤◌, ◌⊎◌, List, [], ◌∷◌, ◌++◌, length, map, set, Some, None, IsSome, arith, refl, sym, ap, subst, ⊎_elim, ◌∙◌}
use Rattle.std.specs.List.{range_with_len}
use Rattle.std.specs.List.Sorted.{IsPermutation}
use Rattle.std.proofs.lemmas.Bool.{cases_order}
use Rattle.std.proofs.lemmas.List.{get_or-set_same, get_or-set_other, length-set}
use Rattle.std.proofs.lemmas.List.Sorted.{IsPermutation-refl, IsPermutation-sym, IsPermutation-trans, IsPermutation-cons, IsPermutation-to_front, IsPermutation-middle}
use Rattle.bucket_codec.specs.Run.{Bucket, bucket_at, taken_of, place_from, IsReached}
use Rattle.bucket_codec.specs.Filled.{IsFilled, IsFree}

-- buckets that are the same on a range of indices
pub same_run : (f g : ℕ → Bucket) (start size : ℕ) → ((index : ℕ) → start ≤ index → index < start + size → g index ≡ f index) → map g (range_with_len start size) ≡ map f (range_with_len start size)
same_run f g start zero same = refl
same_run f g start (suc size) same =
    let head : g start ≡ f start = same start (omega arith) (omega arith) in
    let tail : map g (range_with_len (start + 1) size) ≡ map f (range_with_len (start + 1) size) = same_run f g (start + 1) size (λ index a b. same index (omega arith) (omega arith)) in
    cc

-- and but for one
pub set_run : (f g : ℕ → Bucket) (start size place : ℕ) (b : Bucket) → place < size → g (start + place) ≡ b → ((index : ℕ) → index ≢ start + place → g index ≡ f index)
    → map g (range_with_len start size) ≡ set (map f (range_with_len start size)) place b
set_run f g start zero place b below is others = absurd (omega arith)
set_run f g start (suc size) zero b below is others =
    let at : start + 0 ≡ start = omega arith in
    let head : g start ≡ b = ap g (sym at) ∙ is in
    let tail = same_run f g (start + 1) size (λ index a c. others index (λ e. omega arith)) in
    cc
set_run f g start (suc size) (suc place) b below is others =
    let at : start + suc place ≡ start + 1 + place = omega arith in
    let head : g start ≡ f start = others start (λ e. omega arith) in
    let tail = set_run f g (start + 1) size place b (omega arith) (ap g (sym at) ∙ is) (λ index other. others index (λ e. other (e ∙ at))) in
    cc

-- what the taken buckets hold, with one more taken
taken_set : (run : List Bucket) (place : ℕ) (pair : ℕ × ℕ) → place < length run → bucket_at run place ≡ None → IsPermutation (pair ∷ taken_of run) (taken_of (set run place (Some pair)))
taken_set [] place pair below empty = absurd (omega arith)
taken_set (None ∷ run) zero pair below empty = IsPermutation-refl (pair ∷ taken_of run)
taken_set (Some p ∷ run) zero pair below empty = absurd cc
taken_set (None ∷ run) (suc place) pair below empty = taken_set run place pair (omega arith) empty
taken_set (Some p ∷ run) (suc place) pair below empty =
    IsPermutation-trans (pair ∷ p ∷ taken_of run) (p ∷ pair ∷ taken_of run) (p ∷ taken_of (set run place (Some pair)))
    (IsPermutation-sym (p ∷ pair ∷ taken_of run) (pair ∷ p ∷ taken_of run) (IsPermutation-middle (p ∷ []) pair (taken_of run)))
    (IsPermutation-cons p (pair ∷ taken_of run) (taken_of (set run place (Some pair))) (taken_set run place pair (omega arith) empty))

-- a taken bucket stays taken
stays : (run : List Bucket) (place q : ℕ) (pair : ℕ × ℕ) → place < length run → IsSome (bucket_at run q) → IsSome (bucket_at (set run place (Some pair)) q)
stays run place q pair below some =
    ⊎_elim
    (λ (same : q ≡ place). subst (λ b. IsSome b) (sym (ap (bucket_at (set run place (Some pair))) same ∙ get_or-set_same run place (Some pair) None below)) refl)
    (λ (apart : (q < place) ⊎ (place < q)).
    let other : q ≢ place = ⊎_elim (λ (l : q < place) e. omega arith) (λ (m : place < q) e. omega arith) apart in
    subst (λ b. IsSome b) (sym (get_or-set_other run place q (Some pair) None other)) some)
    (cases_order q place)

-- and a key that is reached stays so
reached_stays : (run : List Bucket) (place q key : ℕ) (pair : ℕ × ℕ) → place < length run → IsReached run key q → IsReached (set run place (Some pair)) key q
reached_stays run place q key pair below reached =
    let long = length-set run place (Some pair) in
    record {
      steps = reached.steps;
      within = omega (arith, reached.within, long);
      ends = ap (λ n. place_from n key reached.steps) long ∙ reached.ends;
      full = λ step less.
          subst (λ n. IsSome (bucket_at (set run place (Some pair)) (place_from n key step))) (sym long)
          (stays run place (place_from (length run) key step) pair below (reached.full step less));
    }

-- one more pair
pub filled_more : (run : List Bucket) (pairs : List (ℕ × ℕ)) (key value place : ℕ) → IsFilled run pairs → IsFree run key place → IsFilled (set run place (Some (key, value))) (pairs ++ (key, value) ∷ [])
filled_more run pairs key value place filled free = record {
  same =
      let more = taken_set run place (key, value) free.inside free.empty in
      let front = IsPermutation-cons (key, value) (taken_of run) pairs filled.same in
      let back = IsPermutation-to_front pairs (key, value) in
      IsPermutation-trans (taken_of (set run place (Some (key, value)))) ((key, value) ∷ taken_of run) (pairs ++ (key, value) ∷ [])
      (IsPermutation-sym ((key, value) ∷ taken_of run) (taken_of (set run place (Some (key, value)))) more)
      (IsPermutation-trans ((key, value) ∷ taken_of run) ((key, value) ∷ pairs) (pairs ++ (key, value) ∷ []) front
      (IsPermutation-sym (pairs ++ (key, value) ∷ []) ((key, value) ∷ pairs) back));
  reached = λ q below k v is. ⊎_elim
      (λ (same : q ≡ place).
      let here : bucket_at (set run place (Some (key, value))) q ≡ Some (key, value) =
      ap (bucket_at (set run place (Some (key, value)))) same ∙ get_or-set_same run place (Some (key, value)) None free.inside in
      let both : Some (key, value) ≡ Some (k, v) = sym here ∙ is in
      let pair : (key, value) ≡ (k, v) = cc in
      subst (λ x. IsReached (set run place (Some (key, value))) x q) (ap (λ (x : ℕ × ℕ). x.0) pair)
      (subst (λ x. IsReached (set run place (Some (key, value))) key x) (sym same) (reached_stays run place place key (key, value) free.inside free.reached)))
      (λ (apart : (q < place) ⊎ (place < q)).
      let other : q ≢ place = ⊎_elim (λ (l : q < place) e. omega arith) (λ (m : place < q) e. omega arith) apart in
      let before : bucket_at run q ≡ Some (k, v) = sym (get_or-set_other run place q (Some (key, value)) None other) ∙ is in
      reached_stays run place q k (key, value) free.inside (filled.reached q (omega (arith, below, length-set run place (Some (key, value)))) k v before))
      (cases_order q place);
}

-- a run of empty buckets
none_taken : (run : List Bucket) → ((q : ℕ) → q < length run → bucket_at run q ≡ None) → taken_of run ≡ []
none_taken [] none = refl
none_taken (None ∷ run) none = none_taken run (λ q below. none (suc q) (omega arith))
none_taken (Some p ∷ run) none = let first = none 0 (omega arith) in absurd cc

pub filled_none : (run : List Bucket) → ((q : ℕ) → q < length run → bucket_at run q ≡ None) → IsFilled run []
filled_none run none = record {
  same = subst (λ l. IsPermutation l []) (sym (none_taken run none)) (IsPermutation-refl []);
  reached = λ q below k v is. let empty = none q below in absurd (let e : None ≡ Some (k, v) = sym empty ∙ is in cc);
}

-- as many pairs as buckets where each bucket is taken
pub all_taken : (run : List Bucket) → ((q : ℕ) → q < length run → IsSome (bucket_at run q)) → length (taken_of run) ≡ length run
all_taken [] all = refl
all_taken (None ∷ run) all = let first = all 0 (omega arith) in absurd cc
all_taken (Some p ∷ run) all = let rest = all_taken run (λ q below. all (suc q) (omega arith)) in omega (arith, rest)
