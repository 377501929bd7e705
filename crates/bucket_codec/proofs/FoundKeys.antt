-- Lemmas on look-ups: a run spells a set or map where each key is found where it stands, and only there.
use Rattle.std.proofs.Common.{◌≡◌, ℕ, zero, suc, ◌+◌, ◌-◌, ◌%◌, ◌^◌, min, MatchOption, ◌<◌, ◌≤◌, ◌⊎◌, List, length, All, Option, Some, None, IsSome, arith, refl, sym, ap, subst, ⊎_elim, ◌∙◌}
use borrow.Author.Count.{below_more}
use Rattle.std.specs.Int.{IsPowerOfTwo}
use Rattle.std.specs.Int.Bits.{bit_and}
use Rattle.std.proofs.lemmas.Nat.{and_mask}
use Rattle.std.proofs.Math.Nat.{mod-lt, mod-eq_of_lt, add-mod_left}
use Rattle.std.proofs.lemmas.Bool.{cases_order}
use Rattle.std.proofs.lemmas.List.Sorted.{length_permutation, All-permutation}
use Rattle.bucket_codec.specs.Hash.{hash_of}
use Rattle.bucket_codec.specs.Run.{Bucket, bucket_at, place_from, taken_of, IsPairInRange, IsReached, SpellsRun}
use Rattle.bucket_codec.specs.Buckets.{IsOther, IsFar, ComesTo, IsFoundAt, FindsEach, SpellsSome, steps_of, steps_within}
use Rattle.std.proofs.lemmas.List.FromFn.{sum_by-map-range_with_len_more}
use Rattle.bucket_codec.proofs.TakenBuckets.{taken_fewer, empty_place}
use Rattle.bucket_codec.proofs.Places.{round_cases}
use Rattle.bucket_codec.proofs.KeysOnce.{IsOnce, pairs_sorted, once_spelled}

-- there is one number of steps from a place to another
steps_once : (n home a b : ℕ) → home < n → a < n → b < n → (home + a) % n ≡ (home + b) % n → a ≡ b
steps_once n home a b h p q same =
    ⊎_elim
    (λ (x : (home + a < n) × ((home + a) % n ≡ home + a)).
    ⊎_elim
    (λ (y : (home + b < n) × ((home + b) % n ≡ home + b)). omega (arith, x.0, x.1, y.0, y.1))
    (λ (y : (n ≤ home + b) × ((home + b) % n ≡ home + b - n)). omega (arith, x.0, x.1, y.0, y.1))
    (round_cases n home b h q))
    (λ (x : (n ≤ home + a) × ((home + a) % n ≡ home + a - n)).
    ⊎_elim
    (λ (y : (home + b < n) × ((home + b) % n ≡ home + b)). omega (arith, x.0, x.1, y.0, y.1))
    (λ (y : (n ≤ home + b) × ((home + b) % n ≡ home + b - n)). omega (arith, x.0, x.1, y.0, y.1))
    (round_cases n home b h q))
    (round_cases n home a h p)

-- a bucket that is taken by another key is taken, and not by this one
taken_other : (key : ℕ) (b : Bucket) → IsOther key b → IsSome b
taken_other key None other = absurd other
taken_other key (Some p) other = refl

pub not_other : (key value : ℕ) (b : Bucket) → b ≡ Some (key, value) → IsOther key b → ⊥
not_other key value None is other = other
not_other key value (Some p) is other = let same : p ≡ (key, value) = cc in other (ap (λ (q : ℕ × ℕ). q.0) same)

other_from : (key : ℕ) (b : Bucket) → IsSome b → ((value : ℕ) → b ≡ Some (key, value) → ⊥) → IsOther key b
other_from key None some apart = absurd cc
other_from key (Some (k, v)) some apart = λ e. apart v (ap (λ x. Some (x, v)) e)

-- a key to which the look-up comes is reached
reached_by : (run : List Bucket) (key place : ℕ) → ComesTo run key place → IsReached run key place
reached_by run key place comes = record {
  steps = comes.steps;
  within = comes.within;
  ends = comes.ends;
  full = λ step less. taken_other key (bucket_at run (place_from (length run) key step)) (comes.others step less);
}

-- the look-up of a key comes to one place that has it
comes_once : (run : List Bucket) (key p q v w : ℕ) → ComesTo run key p → ComesTo run key q → bucket_at run p ≡ Some (key, v) → bucket_at run q ≡ Some (key, w) → p ≡ q
comes_once run key p q v w a b here there =
    ⊎_elim
    (λ (same : a.steps ≡ b.steps). sym a.ends ∙ ap (place_from (length run) key) same ∙ b.ends)
    (λ (apart : (a.steps < b.steps) ⊎ (b.steps < a.steps)). ⊎_elim
    (λ (less : a.steps < b.steps). absurd (not_other key v (bucket_at run (place_from (length run) key a.steps)) (ap (bucket_at run) a.ends ∙ here) (b.others a.steps less)))
    (λ (more : b.steps < a.steps). absurd (not_other key w (bucket_at run (place_from (length run) key b.steps)) (ap (bucket_at run) b.ends ∙ there) (a.others b.steps more)))
    apart)
    (cases_order a.steps b.steps)

once_found : (run : List Bucket) → FindsEach run → IsOnce run
once_found run finds = record {
  one = λ p q below below' key v w here there. comes_once run key p q v w (finds p below key v here) (finds q below' key w there) here there;
}

-- a run whose keys are found, and of which a bucket is empty, spells the set or map of its pairs
pub spells_found : (run : List Bucket) (size count : ℕ) → length run ≡ size → All IsPairInRange (taken_of run) → count ≡ length (taken_of run) → count < size → IsPowerOfTwo size → FindsEach run
    → SpellsSome run count
spells_found run size count long ranges counted room power finds =
    let sorted = pairs_sorted run (once_found run finds) in (
      sorted.0,
      record {
        power = subst (λ n. IsPowerOfTwo n) (sym long) power;
        room = empty_place run (omega (arith, counted, long));
        reached = λ place below key value is. reached_by run key place (finds place below key value is);
        rises = sorted.1;
        same = sorted.2;
        ranges = All-permutation IsPairInRange (taken_of run) sorted.0 sorted.2 ranges;
      },
      counted ∙ sym (length_permutation (taken_of run) sorted.0 sorted.2),
    )

-- and one that spells a set or map finds them
pub finds_spelled : (run : List Bucket) (pairs : List (ℕ × ℕ)) → SpellsRun run pairs → FindsEach run
finds_spelled run pairs spelled = λ place below key value is.
    let once = once_spelled run pairs spelled in
    let reached = spelled.reached place below key value is in
    let home : hash_of key % length run < length run = mod-lt (hash_of key) (omega (arith, below)) in
    record {
      steps = reached.steps;
      within = reached.within;
      ends = reached.ends;
      others = λ step less.
          other_from key (bucket_at run (place_from (length run) key step)) (reached.full step less) (λ w again.
          let inside : place_from (length run) key step < length run = mod-lt (hash_of key % length run + step) (omega (arith, below)) in
          let same = once.one (place_from (length run) key step) place inside below key w value again is in
          let steps = steps_once (length run) (hash_of key % length run) step reached.steps home (omega (arith, less, reached.within)) reached.within (same ∙ sym reached.ends) in
          omega (arith, steps, less));
    }

-- what a run that spells something has
pub counted_spelled : (run : List Bucket) (pairs : List (ℕ × ℕ)) → SpellsRun run pairs → length pairs ≡ length (taken_of run)
counted_spelled run pairs spelled = length_permutation (taken_of run) pairs spelled.same

pub room_spelled : (run : List Bucket) (pairs : List (ℕ × ℕ)) → SpellsRun run pairs → length (taken_of run) < length run
room_spelled run pairs spelled = taken_fewer run spelled.room.0 spelled.room.1 spelled.room.2

-- so many buckets on the way from the home of a key stand elsewhere, and other keys take them
pub record IsPassed (run : List Bucket) (key index steps : ℕ) : Type 0 where
  pub apart : (step : ℕ) → step < steps → place_from (length run) key step ≡ index → ⊥
  pub others : (step : ℕ) → step < steps → IsOther key (bucket_at run (place_from (length run) key step))

-- the place to which the code comes after so many steps
place_is : (run : List Bucket) (size key home steps place : ℕ) → length run ≡ size → home ≡ hash_of key % size → place ≡ (home + steps) % size → place_from (length run) key steps ≡ place
place_is run size key home steps place long is there = ap (λ n. place_from n key steps) long ∙ ap (λ h. (h + steps) % size) (sym is) ∙ sym there

pub passed_more : (run : List Bucket) (size key home index steps place : ℕ) → length run ≡ size → home ≡ hash_of key % size → place ≡ (home + steps) % size → (place ≡ index → ⊥)
    → IsOther key (bucket_at run place) → IsPassed run key index steps → IsPassed run key index (steps + 1)
passed_more run size key home index steps place long is there elsewhere other passed =
    let here = place_is run size key home steps place long is there in
    record {
      apart = below_more (λ step. place_from (length run) key step ≡ index → ⊥) steps passed.apart (λ e. elsewhere (sym here ∙ e));
      others = below_more (λ step. IsOther key (bucket_at run (place_from (length run) key step))) steps passed.others (subst (λ p. IsOther key (bucket_at run p)) (sym here) other);
    }

-- the steps from one place to another, by a difference
steps_are : (n home place steps : ℕ) → home < n → steps < n → (home + steps) % n ≡ place → steps ≡ (place + n - home) % n
steps_are n home place steps a b ends =
    ⊎_elim
    (λ (below : (home + steps < n) × ((home + steps) % n ≡ home + steps)).
    let is : place + n - home ≡ n + steps = omega (arith, below.1) in
    sym (ap (λ x. x % n) is ∙ add-mod_left n steps ∙ mod-eq_of_lt b))
    (λ (above : (n ≤ home + steps) × ((home + steps) % n ≡ home + steps - n)).
    let is : place + n - home ≡ steps = omega (arith, above.0, above.1) in
    sym (ap (λ x. x % n) is ∙ mod-eq_of_lt b))
    (round_cases n home steps a b)

-- the look-up comes to its place
pub comes_here : (run : List Bucket) (size key home index steps place : ℕ) → length run ≡ size → home ≡ hash_of key % size → place ≡ (home + steps) % size → steps < size → place ≡ index
    → IsPassed run key index steps → ComesTo run key index × (steps ≡ (index + size - hash_of key % size) % size)
comes_here run size key home index steps place long is there below here passed = (
  record {
    steps = steps;
    within = omega arith;
    ends = place_is run size key home steps place long is there ∙ here;
    others = passed.others;
  },
  steps_are size (hash_of key % size) index steps (mod-lt (hash_of key) (omega arith)) below (ap (λ h. (h + steps) % size) (sym is) ∙ sym there ∙ here),
)

-- or ends before it
pub stops_before : (run : List Bucket) (size key home index steps place : ℕ) → length run ≡ size → home ≡ hash_of key % size → place ≡ (home + steps) % size → (place ≡ index → ⊥)
    → (IsOther key (bucket_at run place) → ⊥) → IsPassed run key index steps → ComesTo run key index → ⊥
stops_before run size key home index steps place long is there elsewhere stop passed comes =
    let here = place_is run size key home steps place long is there in
    ⊎_elim
    (λ (same : comes.steps ≡ steps). elsewhere (sym here ∙ ap (place_from (length run) key) (sym same) ∙ comes.ends))
    (λ (other : (comes.steps < steps) ⊎ (steps < comes.steps)). ⊎_elim
    (λ (less : comes.steps < steps). passed.apart comes.steps less comes.ends)
    (λ (more : steps < comes.steps). stop (subst (λ p. IsOther key (bucket_at run p)) here (comes.others steps more)))
    other)
    (cases_order comes.steps steps)

pub never_comes : (run : List Bucket) (size key index steps : ℕ) → length run ≡ size → size ≤ steps → IsPassed run key index steps → ComesTo run key index → ⊥
never_comes run size key index steps long all passed comes = passed.apart comes.steps (omega (arith, comes.within, long)) comes.ends

-- the key at a place, found or not
found_at : (run : List Bucket) (place key value : ℕ) → Some (key, value) ≡ bucket_at run place → ComesTo run key place → IsFoundAt run place
found_at run place key value is comes = λ k v same.
    let one : Some (key, value) ≡ Some (k, v) = is ∙ same in
    let pair : (key, value) ≡ (k, v) = cc in
    subst (λ q. ComesTo run q place) (ap (λ (q : ℕ × ℕ). q.0) pair) comes

-- the bucket at a place, empty or taken, and what its steps are
pub steps_empty : (run : List Bucket) (size place : ℕ) → None ≡ bucket_at run place → IsFoundAt run place × (0 ≡ steps_of size place (bucket_at run place))
steps_empty run size place is = (λ key value same. let none : None ≡ Some (key, value) = is ∙ same in absurd cc, ap (steps_of size place) is)

pub steps_taken : (run : List Bucket) (size place key value : ℕ) (found : Option ℕ) → Some (key, value) ≡ bucket_at run place
    → MatchOption found (ComesTo run key place → ⊥) (λ steps. ComesTo run key place × (steps ≡ (place + size - hash_of key % size) % size))
    → MatchOption found (IsFoundAt run place → ⊥) (λ steps. IsFoundAt run place × (steps ≡ steps_of size place (bucket_at run place)))
steps_taken run size place key value None is never = λ found. never (found key value (sym is))
steps_taken run size place key value (Some steps) is comes = (found_at run place key value is comes.0, comes.1 ∙ ap (steps_of size place) is)

-- the steps of the keys so far, and of one more
steps_more : (run : List Bucket) (place : ℕ) → steps_within run (place + 1) ≡ steps_within run place + steps_of (length run) place (bucket_at run place)
steps_more run place = sum_by-map-range_with_len_more (λ (steps : ℕ). steps) (λ place. steps_of (length run) place (bucket_at run place)) 0 place place (omega arith)

steps_rise : (run : List Bucket) (count more : ℕ) → steps_within run count ≤ steps_within run (count + more)
steps_rise run count zero = let e : count ≡ count + zero = omega arith in subst (λ n. steps_within run count ≤ steps_within run n) e (omega arith)
steps_rise run count (suc more) =
    let e : count + more + 1 ≡ count + suc more = omega arith in
    subst (λ n. steps_within run count ≤ steps_within run n) e (omega (arith, steps_rise run count more, steps_more run (count + more)))

pub gone_more : (run : List Bucket) (size place gone steps new : ℕ) → length run ≡ size → gone ≡ min (steps_within run place) (2 ^ 64 - 1) → steps ≡ steps_of size place (bucket_at run place)
    → new ≡ min (gone + steps) (2 ^ 64 - 1) → new ≡ min (steps_within run (place + 1)) (2 ^ 64 - 1)
gone_more run size place gone steps new long so_far is added =
    let here : steps ≡ steps_of (length run) place (bucket_at run place) = is ∙ ap (λ n. steps_of n place (bucket_at run place)) (sym long) in
    omega (arith, so_far, here, added, steps_more run place)

-- more than so many steps are gone
pub gone_far : (run : List Bucket) (size place gone steps new most : ℕ) → length run ≡ size → gone ≡ min (steps_within run place) (2 ^ 64 - 1) → steps ≡ steps_of size place (bucket_at run place)
    → new ≡ min (gone + steps) (2 ^ 64 - 1) → place < size → most < new → IsFar run most
gone_far run size place gone steps new most long so_far is added below far =
    let here = gone_more run size place gone steps new long so_far is added in
    let e : place + 1 + (length run - (place + 1)) ≡ length run = omega arith in
    let rise : steps_within run (place + 1) ≤ steps_within run (length run) = subst (λ n. steps_within run (place + 1) ≤ steps_within run n) e (steps_rise run (place + 1) (length run - (place + 1))) in
    omega (arith, here, rise, far)

-- the home of a key by the bits of its hash
pub home_masked : (size key hash mask : ℕ) → IsPowerOfTwo size → hash ≡ hash_of key → mask ≡ size - 1 → bit_and hash mask ≡ hash_of key % size
home_masked size key hash mask power is below =
    ap (λ h. bit_and h mask) is
    ∙ ap (λ m. bit_and (hash_of key) m) (below ∙ ap (λ n. n - 1) power.1)
    ∙ and_mask (hash_of key) power.0
    ∙ ap (λ n. hash_of key % n) (sym power.1)
