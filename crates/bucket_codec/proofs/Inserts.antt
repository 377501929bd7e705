-- Lemmas on the bucket that a pair takes, and on runs into which pairs are put one after another.
use Rattle.std.proofs.Common.{◌≡◌, ◌≢◌, ℕ, zero, suc, ◌+◌, ◌<◌, ◌≤◌, List, [], ◌∷◌, ◌++◌, Bool, true, false, length, map, set, Option, Some, None, IsSome, arith, refl, sym, ap, ⊎_elim, ◌∙◌}
use Rattle.std.specs.Prelude.{find, replicate, is_none, option_map, unwrap_or}
use Rattle.std.specs.List.{range_with_len}
use Rattle.std.proofs.lemmas.Bool.{cases_lt, cond-true, cond-false}
use Rattle.std.proofs.lemmas.List.Sums.{fold_push}
use Rattle.bucket_codec.specs.Run.{Bucket, bucket_at, bucket_in, run_in, place_from}
use Rattle.bucket_codec.specs.Filled.{IsFree}
use Rattle.bucket_codec.specs.Inserted.{first_empty, with_pair, inserted}
use Rattle.bucket_codec.proofs.RunBuckets.{length-run_in}
use Rattle.bucket_codec.proofs.Filling.{set_run}

-- the first that passes a test, where those before it fail
first_found : (f : ℕ → ℕ) (test : ℕ → Bool) (start count steps : ℕ) → start ≤ steps → steps < start + count → test (f steps) ≡ true
    → ((step : ℕ) → start ≤ step → step < steps → test (f step) ≡ false) → find test (map f (range_with_len start count)) ≡ Some (f steps)
first_found f test start zero steps above below passes before = absurd (omega arith)
first_found f test start (suc count) steps above below passes before =
    ⊎_elim
    (λ (later : start < steps).
    cond-false (test (f start)) (Some (f start)) (find test (map f (range_with_len (start + 1) count))) (before start (omega arith) later)
    ∙ first_found f test (start + 1) count steps (omega arith) (omega arith) passes (λ step from less. before step (omega arith) less))
    (λ (here : steps ≤ start).
    let same : start ≡ steps = omega arith in
    cond-true (test (f start)) (Some (f start)) (find test (map f (range_with_len (start + 1) count))) (ap (λ s. test (f s)) same ∙ passes) ∙ ap (λ s. Some (f s)) same)
    (cases_lt start steps)

none_passes : (b : Bucket) → b ≡ None → is_none b ≡ true
none_passes b is = ap (λ (x : Bucket). is_none x) is

some_fails : (b : Bucket) → IsSome b → is_none b ≡ false
some_fails None some = absurd cc
some_fails (Some p) some = refl

-- the first empty bucket is found
free_found : (run : List Bucket) (key place : ℕ) → IsFree run key place → first_empty run key ≡ Some place
free_found run key place free =
    first_found (place_from (length run) key) (λ at. is_none (bucket_at run at)) 0 (length run) free.reached.steps (omega arith) (omega (arith, free.reached.within))
    (none_passes (bucket_at run (place_from (length run) key free.reached.steps)) (ap (bucket_at run) free.reached.ends ∙ free.empty))
    (λ step from less. some_fails (bucket_at run (place_from (length run) key step)) (free.reached.full step less))
    ∙ ap (λ at. Some at) free.reached.ends

-- and taken by the pair
pair_taken : (run : List Bucket) (key value place : ℕ) → IsFree run key place → with_pair run (key, value) ≡ set run place (Some (key, value))
pair_taken run key value place free = ap (λ (found : Option ℕ). unwrap_or (option_map (λ at. set run at (Some (key, value))) found) run) (free_found run key place free)

-- the run in words with one more pair
pub one_put : (old new : List ℕ) (k v start size place key value : ℕ) → bucket_in new k v (start + place) ≡ Some (key, value)
    → ((index : ℕ) → index ≢ start + place → bucket_in new k v index ≡ bucket_in old k v index) → IsFree (run_in old k v start size) key place
    → run_in new k v start size ≡ with_pair (run_in old k v start size) (key, value)
one_put old new k v start size place key value here others free =
    let long = length-run_in old k v start size in
    set_run (bucket_in old k v) (bucket_in new k v) start size place (Some (key, value)) (omega (arith, free.inside, long)) here others
    ∙ sym (pair_taken (run_in old k v start size) key value place free)

-- one more pair behind others
pub inserted_more : (size : ℕ) (before after : List (ℕ × ℕ)) (pair : ℕ × ℕ) (mid new : List Bucket) → after ≡ before ++ pair ∷ [] → mid ≡ inserted size before → new ≡ with_pair mid pair
    → new ≡ inserted size after
inserted_more size before after pair mid new is done one =
    one ∙ ap (λ run. with_pair run pair) done ∙ sym (fold_push with_pair (replicate size None) before pair) ∙ ap (inserted size) (sym is)

-- a run whose buckets are all empty
pub inserted_none : (f : ℕ → Bucket) (start size : ℕ) → ((index : ℕ) → start ≤ index → index < start + size → f index ≡ None) → map f (range_with_len start size) ≡ inserted size []
inserted_none f start zero none = refl
inserted_none f start (suc size) none =
    let head : f start ≡ None = none start (omega arith) (omega arith) in
    let tail : map f (range_with_len (start + 1) size) ≡ replicate size None = inserted_none f (start + 1) size (λ index above below. none index (omega arith) (omega arith)) in
    cc
