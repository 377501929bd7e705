-- Lemmas on look-ups in a run: what is found on the way from a key's home up to an empty bucket is what the set or map has.
use Rattle.std.proofs.Common.{◌≡◌, ℕ, ◌+◌, ◌%◌, ◌^◌, ◌<◌, ◌≤◌, ◌⊎◌, ◌↔◌, List, length, All, Bool, Option, Some, None, IsSome, IsTrue, is_some, arith, sym, ap, ⊎_elim, ◌∙◌}
use Rattle.std.specs.List.{Contains}
use Rattle.std.proofs.lemmas.Bool.{cases_order}
use Rattle.std.proofs.lemmas.List.Elements.{All-contains}
use Rattle.std.proofs.lemmas.List.Sorted.{Contains-permutation, IsPermutation-sym}
use Rattle.bucket_codec.specs.Hash.{hash_of}
use Rattle.bucket_codec.specs.Run.{Bucket, bucket_at, place_from, taken_of, keys_of, run_in, IsPairInRange, IsReached, SpellsRun, FindsIn}
use Rattle.bucket_codec.proofs.Members.{taken_has, taken_from, key_has, key_from}
use Rattle.bucket_codec.proofs.RunBuckets.{length-run_in}

-- so many buckets from the home of the key on hold other keys
pub record IsPassed (run : List Bucket) (key steps : ℕ) : Type 0 where
  pub others : (step value : ℕ) → step < steps → bucket_at run (place_from (length run) key step) ≡ Some (key, value) → ⊥

-- one more
pub passed_more : (run : List Bucket) (key steps found value : ℕ) → IsPassed run key steps → bucket_at run (place_from (length run) key steps) ≡ Some (found, value)
    → (found ≡ key → ⊥) → IsPassed run key (steps + 1)
passed_more run key steps found value passed is other = record {
  others = λ step v less holds. ⊎_elim
      (λ (here : step ≡ steps).
      let same : Some (found, value) ≡ Some (key, v) = sym is ∙ ap (λ s. bucket_at run (place_from (length run) key s)) (sym here) ∙ holds in
      let pair : (found, value) ≡ (key, v) = cc in other (ap (λ (q : ℕ × ℕ). q.0) pair))
      (λ (apart : (step < steps) ⊎ (steps < step)). ⊎_elim
      (λ (before : step < steps). passed.others step v before holds)
      (λ (after : steps < step). absurd (omega arith))
      apart)
      (cases_order step steps);
}

-- a pair of the set or map stands in a bucket that is reached from the key's home
pub standing : (run : List Bucket) (pairs : List (ℕ × ℕ)) (key value : ℕ) → SpellsRun run pairs → Contains pairs (key, value)
    → (place : ℕ) × (place < length run) × (bucket_at run place ≡ Some (key, value)) × IsReached run key place
standing run pairs key value spelled h =
    let among : Contains (taken_of run) (key, value) = Contains-permutation pairs (taken_of run) (key, value) (IsPermutation-sym (taken_of run) pairs spelled.same) h in
    let found = taken_from run (key, value) among in
    (found.0, found.1, found.2, spelled.reached found.0 found.1 key value found.2)

-- what a bucket holds is a pair of the set or map
pub found_at : (run : List Bucket) (pairs : List (ℕ × ℕ)) (place key value : ℕ) → SpellsRun run pairs → place < length run → bucket_at run place ≡ Some (key, value) → Contains pairs (key, value)
found_at run pairs place key value spelled below is = Contains-permutation (taken_of run) pairs (key, value) spelled.same (taken_has run place (key, value) below is)

none_some : (b : Option (ℕ × ℕ)) → b ≡ None → IsSome b → ⊥
none_some None none some = absurd cc
none_some (Some p) none some = absurd cc

-- no pair has the key where an empty bucket ends the way
pub none_at_empty : (run : List Bucket) (pairs : List (ℕ × ℕ)) (key steps : ℕ) → SpellsRun run pairs → IsPassed run key steps → bucket_at run (place_from (length run) key steps) ≡ None
    → FindsIn pairs key None
none_at_empty run pairs key steps spelled passed none value h =
    let found = standing run pairs key value spelled h in
    let reached = found.3 in
    let there : bucket_at run (place_from (length run) key reached.steps) ≡ Some (key, value) = ap (bucket_at run) reached.ends ∙ found.2 in
    ⊎_elim
    (λ (here : reached.steps ≡ steps).
    let same : Some (key, value) ≡ None = sym there ∙ ap (λ s. bucket_at run (place_from (length run) key s)) here ∙ none in absurd cc)
    (λ (apart : (reached.steps < steps) ⊎ (steps < reached.steps)). ⊎_elim
    (λ (before : reached.steps < steps). passed.others reached.steps value before there)
    (λ (after : steps < reached.steps). none_some _ none (reached.full steps after))
    apart)
    (cases_order reached.steps steps)

-- nor where the whole run is passed
pub none_at_all : (run : List Bucket) (pairs : List (ℕ × ℕ)) (key steps : ℕ) → length run ≤ steps → SpellsRun run pairs → IsPassed run key steps → FindsIn pairs key None
none_at_all run pairs key steps all spelled passed value h =
    let found = standing run pairs key value spelled h in
    let reached = found.3 in
    passed.others reached.steps value (omega (arith, reached.within)) (ap (bucket_at run) reached.ends ∙ found.2)

-- the bucket that the code reads at so many steps from the home of the key
pub bucket_on_way : (words : List ℕ) (k v start size key steps hash place : ℕ) (b : Option (ℕ × ℕ)) → hash ≡ hash_of key → place ≡ (hash % size + steps) % size
    → b ≡ bucket_at (run_in words k v start size) place
    → bucket_at (run_in words k v start size) (place_from (length (run_in words k v start size)) key steps) ≡ b
bucket_on_way words k v start size key steps hash place b is there found =
    let long = length-run_in words k v start size in
    let same : place_from (length (run_in words k v start size)) key steps ≡ place =
    ap (λ n. place_from n key steps) long ∙ ap (λ h. (h % size + steps) % size) (sym is) ∙ sym there in
    ap (bucket_at (run_in words k v start size)) same ∙ sym found

-- what is found says whether the key is there
pub has_is : (pairs : List (ℕ × ℕ)) (key : ℕ) (found : Option ℕ) (b : Bool) → b ≡ is_some found → FindsIn pairs key found → IsTrue b ↔ Contains (keys_of pairs) key
has_is pairs key None b is finds = (λ yes. absurd cc, λ h. let there = key_from pairs key h in absurd (finds there.0 there.1))
has_is pairs key (Some value) b is finds = (λ yes. key_has pairs key value finds, λ h. is)

-- no value that is no ordinal is found
pub found_fits : (run : List Bucket) (pairs : List (ℕ × ℕ)) (key value : ℕ) → SpellsRun run pairs → FindsIn pairs key (Some value) → value < 2 ^ 32
found_fits run pairs key value spelled finds = (All-contains IsPairInRange pairs (key, value) spelled.ranges finds).1

-- the key of a bucket is an ordinal where all are
pub key_fits : (run : List Bucket) (place key value : ℕ) → All IsPairInRange (taken_of run) → place < length run → Some (key, value) ≡ bucket_at run place → key < 2 ^ 32
key_fits run place key value ranges below is = (All-contains IsPairInRange (taken_of run) (key, value) ranges (taken_has run place (key, value) below (sym is))).0
