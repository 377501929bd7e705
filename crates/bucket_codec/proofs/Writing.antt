-- Lemmas on buckets as they are written into words.
use Rattle.std.proofs.Common.{◌≡◌, ◌≢◌, ℕ, ◌+◌, ◌-◌, ◌*◌, ◌%◌, ◌^◌, ◌<◌, ◌≤◌, ◌⊎◌, inl, inr, ◌==◌, if◌then◌else◌, List, [], ◌∷◌, ◌++◌, length, set, eqb, cond, Some, None, IsSome, arith, refl, sym, ap, subst, ⊎_elim, ◌∙◌}
use Rattle.std.proofs.Math.Nat.{mul-le-mul_right, mod-lt}
use Rattle.std.proofs.lemmas.Bool.{cases_lt, cases_order, eq-eqb, ne_eqb}
use Rattle.bit_array.specs.Element.{element_of}
use Rattle.bucket_codec.specs.Hash.{hash_of}
use Rattle.bucket_codec.specs.Run.{Bucket, bucket_in, value_in, bucket_at, run_in, taken_of, place_from, HoldsRun}
use Rattle.bucket_codec.specs.Filled.{KeepsFront, IsFilled, IsFree}
use Rattle.bucket_codec.proofs.RunBuckets.{length-run_in, bucket_of_run, if_true, if_false}
use Rattle.bucket_codec.proofs.Filling.{set_run, filled_more, filled_none, all_taken}
use Rattle.bucket_codec.proofs.Streaks.{steps_are}

-- what holds a run holds it with as many other words
pub still_holds : (old new : List ℕ) (k v start size : ℕ) → length new ≡ length old → HoldsRun old k v start size → HoldsRun new k v start size
still_holds old new k v start size long h = record {
  narrow_key = h.narrow_key;
  narrow_value = h.narrow_value;
  inside = omega (arith, h.inside, long);
  few = omega (arith, h.few, long);
  ends = h.ends;
}

pub kept_both : (a b c : List ℕ) (first second limit : ℕ) → KeepsFront a b first → KeepsFront b c second → limit ≤ first → limit ≤ second → KeepsFront a c limit
kept_both a b c first second limit h k p q = record {
  long = k.long ∙ h.long;
  front = λ i v inside. k.front i v (omega arith) ∙ h.front i v (omega arith);
}

-- two elements that follow one another are written, and no other bit changes
pub both_written : (w0 w1 w2 : List ℕ) (at k v : ℕ) → ((i u : ℕ) → (i + u ≤ at) ⊎ (at + k ≤ i) → element_of w1 i u ≡ element_of w0 i u)
    → ((i u : ℕ) → (i + u ≤ at + k) ⊎ (at + k + v ≤ i) → element_of w2 i u ≡ element_of w1 i u)
    → (i u : ℕ) → (i + u ≤ at) ⊎ (at + (k + v) ≤ i) → element_of w2 i u ≡ element_of w0 i u
both_written w0 w1 w2 at k v one two i u apart =
    ⊎_elim
    (λ (before : i + u ≤ at). let near : i + u ≤ at + k = omega arith in two i u (inl near) ∙ one i u (inl before))
    (λ (behind : at + (k + v) ≤ i). let far : at + k + v ≤ i = omega arith in let past : at + k ≤ i = omega arith in two i u (inr far) ∙ one i u (inr past))
    apart

-- and the others, which stay
pub buckets_stay : (w0 w2 : List ℕ) (at k v index other : ℕ) → at ≡ index * (k + v) → ((i u : ℕ) → (i + u ≤ at) ⊎ (at + (k + v) ≤ i) → element_of w2 i u ≡ element_of w0 i u)
    → other ≢ index → (bucket_in w2 k v other ≡ bucket_in w0 k v other) × (value_in w2 k v other ≡ value_in w0 k v other)
buckets_stay w0 w2 at k v index other is others apart =
    let away : (other * (k + v) + (k + v) ≤ at) ⊎ (at + (k + v) ≤ other * (k + v)) =
    ⊎_elim
    (λ (less : other < index). let up : (other + 1) * (k + v) ≤ index * (k + v) = mul-le-mul_right (k + v) (let l : other + 1 ≤ index = omega arith in l) in inl (omega (arith, up, is)))
    (λ (more : index ≤ other).
    let up : (index + 1) * (k + v) ≤ other * (k + v) = mul-le-mul_right (k + v) (let l : index + 1 ≤ other = omega arith in l) in inr (omega (arith, up, is)))
    (cases_lt other index) in
    let key_is : element_of w2 (other * (k + v)) k ≡ element_of w0 (other * (k + v)) k =
    others (other * (k + v)) k (⊎_elim (λ (l : other * (k + v) + (k + v) ≤ at). inl (omega (arith, l))) (λ (m : at + (k + v) ≤ other * (k + v)). inr m) away) in
    let value_is : element_of w2 (other * (k + v) + k) v ≡ element_of w0 (other * (k + v) + k) v =
    others (other * (k + v) + k) v (⊎_elim (λ (l : other * (k + v) + (k + v) ≤ at). inl (omega (arith, l))) (λ (m : at + (k + v) ≤ other * (k + v)). inr (omega (arith, m))) away) in (
      ap (λ x. cond (eqb x (2 ^ k - 1)) None (Some (x, element_of w2 (other * (k + v) + k) v))) key_is
          ∙ ap (λ y. cond (eqb (element_of w0 (other * (k + v)) k) (2 ^ k - 1)) None (Some (element_of w0 (other * (k + v)) k, y))) value_is,
      value_is,
    )

-- a bucket whose key is all ones is empty, and another is not
pub put_empty : (k key : ℕ) (pair : ℕ × ℕ) (b : Bucket) → b ≡ (if key == 2 ^ k - 1 then None else Some pair) → key ≡ 2 ^ k - 1 → b ≡ None
put_empty k key pair b is ones = is ∙ if_true _ _ _ (eq-eqb _ _ ones)

pub put_taken : (k key : ℕ) (pair : ℕ × ℕ) (b : Bucket) → b ≡ (if key == 2 ^ k - 1 then None else Some pair) → key < 2 ^ k - 1 → b ≡ Some pair
put_taken k key pair b is below = is ∙ if_false _ _ _ (ne_eqb key (2 ^ k - 1) (λ (e : key ≡ 2 ^ k - 1). omega (arith, e, below)))

-- one more bucket is empty
pub empty_more : (old new : List ℕ) (k v start place : ℕ) → ((index : ℕ) → start ≤ index → index < start + place → bucket_in old k v index ≡ None) → bucket_in new k v (start + place) ≡ None
    → ((index : ℕ) → index ≢ start + place → bucket_in new k v index ≡ bucket_in old k v index) → (index : ℕ) → start ≤ index → index < start + (place + 1) → bucket_in new k v index ≡ None
empty_more old new k v start place before here others index above below =
    ⊎_elim
    (λ (same : index ≡ start + place). ap (bucket_in new k v) same ∙ here)
    (λ (apart : (index < start + place) ⊎ (start + place < index)). ⊎_elim
    (λ (less : index < start + place). others index (λ e. omega arith) ∙ before index above less)
    (λ (more : start + place < index). absurd (omega arith))
    apart)
    (cases_order index (start + place))

-- all of them
pub all_empty : (words : List ℕ) (k v start size place : ℕ) → size ≤ place → ((index : ℕ) → start ≤ index → index < start + place → bucket_in words k v index ≡ None)
    → IsFilled (run_in words k v start size) []
all_empty words k v start size place all none =
    let long = length-run_in words k v start size in
    filled_none (run_in words k v start size) (λ q below. bucket_of_run words k v start size q (omega arith) ∙ none (start + q) (omega arith) (omega arith))

-- a pair is put into the run
pub inserted : (old new : List ℕ) (k v start size place key value : ℕ) (pairs : List (ℕ × ℕ)) → bucket_in new k v (start + place) ≡ Some (key, value)
    → ((index : ℕ) → index ≢ start + place → bucket_in new k v index ≡ bucket_in old k v index) → IsFree (run_in old k v start size) key place → IsFilled (run_in old k v start size) pairs
    → IsFilled (run_in new k v start size) (pairs ++ (key, value) ∷ [])
inserted old new k v start size place key value pairs here others free filled =
    let long = length-run_in old k v start size in
    let is : run_in new k v start size ≡ set (run_in old k v start size) place (Some (key, value)) =
    set_run (bucket_in old k v) (bucket_in new k v) start size place (Some (key, value)) (omega (arith, free.inside)) here others in
    subst (λ r. IsFilled r (pairs ++ (key, value) ∷ [])) (sym is) (filled_more (run_in old k v start size) pairs key value place filled free)

-- the first empty bucket on the way from the home of the key
pub free_at : (run : List Bucket) (size key steps place : ℕ) → length run ≡ size → steps < size → place_from size key steps ≡ place → None ≡ bucket_at run place
    → ((s : ℕ) → s < steps → IsSome (bucket_at run (place_from size key s))) → IsFree run key place
free_at run size key steps place long within ends none full =
    let there : place_from (length run) key steps ≡ place = ap (λ n. place_from n key steps) long ∙ ends in
    record {
      inside = let down : place_from (length run) key steps < length run = mod-lt (hash_of key % length run + steps) (omega arith) in omega (arith, down, there);
      empty = sym none;
      reached = record {
        steps = steps;
        within = omega arith;
        ends = there;
        full = λ s less. subst (λ n. IsSome (bucket_at run (place_from n key s))) (sym long) (full s less);
      };
    }

-- one more is taken
pub way_more : (run : List Bucket) (size key steps place : ℕ) (pair : ℕ × ℕ) → place_from size key steps ≡ place → Some pair ≡ bucket_at run place
    → ((s : ℕ) → s < steps → IsSome (bucket_at run (place_from size key s))) → (s : ℕ) → s < steps + 1 → IsSome (bucket_at run (place_from size key s))
way_more run size key steps place pair there some full s less =
    ⊎_elim
    (λ (before : s < steps). full s before)
    (λ (later : steps ≤ s).
    let same : steps ≡ s = omega arith in
    subst (λ q. IsSome (bucket_at run (place_from size key q))) same (subst (λ q. IsSome (bucket_at run q)) (sym there) (subst (λ b. IsSome b) some refl)))
    (cases_lt s steps)

-- not all of them are
pub way_ends : (run : List Bucket) (size key steps : ℕ) → length run ≡ size → size ≤ steps → length (taken_of run) < size
    → ((s : ℕ) → s < steps → IsSome (bucket_at run (place_from size key s))) → ⊥
way_ends run size key steps long all room full =
    let home : hash_of key % size < size = mod-lt (hash_of key) (omega arith) in
    let each : (q : ℕ) → q < length run → IsSome (bucket_at run q) = λ q below.
    ⊎_elim
    (λ (behind : q < hash_of key % size).
    let are = steps_are size (hash_of key % size) q (q + (size - hash_of key % size)) home (omega arith) (λ h. absurd (omega arith)) (λ h. refl) in
    subst (λ x. IsSome (bucket_at run x)) are.0 (full (q + (size - hash_of key % size)) (omega (arith, are.1))))
    (λ (ahead : hash_of key % size ≤ q).
    let are = steps_are size (hash_of key % size) q (q - hash_of key % size) home (omega arith) (λ h. refl) (λ h. absurd (omega arith)) in
    subst (λ x. IsSome (bucket_at run x)) are.0 (full (q - hash_of key % size) (omega (arith, are.1))))
    (cases_lt q (hash_of key % size)) in
    omega (arith, all_taken run each)
