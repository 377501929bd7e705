-- Lemmas on streaks of taken buckets: a key is reached from its home where its steps from there are no more than the taken buckets before it.
use Rattle.std.proofs.Common.{◌≡◌, ℕ, ◌+◌, ◌-◌, ◌%◌, ◌<◌, ◌≤◌, List, length, Option, Some, None, IsSome, arith, refl, sym, ap, subst, ⊎_elim, ◌∙◌}
use Rattle.std.proofs.Math.Nat.{mod-eq_of_lt, mod-lt, add-mod_left}
use Rattle.std.proofs.lemmas.Bool.{cases_lt}
use Rattle.bucket_codec.specs.Hash.{hash_of}
use Rattle.bucket_codec.specs.Run.{Bucket, bucket_at, place_from, IsReached}
use Rattle.bucket_codec.specs.Streak.{bucket_round, IsStreak, IsReachedAt, IsOpen}
use Rattle.bucket_codec.proofs.Places.{round_cases}

-- a step before the last is so many places back, round the run
back_round : (n place steps step home : ℕ) → place < n → home < n → steps < n → (home + steps) % n ≡ place → step < steps → (n + place - 1 - (steps - 1 - step)) % n ≡ (home + step) % n
back_round n place steps step home a b c ends less =
    ⊎_elim
    (λ (below : (home + steps < n) × ((home + steps) % n ≡ home + steps)).
    let is : n + place - 1 - (steps - 1 - step) ≡ n + (home + step) = omega (arith, below.0, below.1) in ap (λ x. x % n) is ∙ add-mod_left n (home + step))
    (λ (above : (n ≤ home + steps) × ((home + steps) % n ≡ home + steps - n)).
    let is : n + place - 1 - (steps - 1 - step) ≡ home + step = omega (arith, above.0, above.1) in ap (λ x. x % n) is)
    (round_cases n home steps b c)

-- there is one number of steps from a place to another
steps_once : (n home a b : ℕ) → home < n → a < n → b < n → (home + a) % n ≡ (home + b) % n → a ≡ b
steps_once n home a b h p q same =
    ⊎_elim
    (λ (x : (home + a < n) × ((home + a) % n ≡ home + a)).
    ⊎_elim
    (λ (y : (home + b < n) × ((home + b) % n ≡ home + b)). omega (arith, x.0, x.1, y.0, y.1))
    (λ (y : (n ≤ home + b) × ((home + b) % n ≡ home + b - n)). omega (arith, x.0, x.1, y.0, y.1))
    (round_cases n home b h q))
    (λ (x : (n ≤ home + a) × ((home + a) % n ≡ home + a - n)).
    ⊎_elim
    (λ (y : (home + b < n) × ((home + b) % n ≡ home + b)). omega (arith, x.0, x.1, y.0, y.1))
    (λ (y : (n ≤ home + b) × ((home + b) % n ≡ home + b - n)). omega (arith, x.0, x.1, y.0, y.1))
    (round_cases n home b h q))
    (round_cases n home a h p)

-- the steps that the code computes
pub steps_are : (n home place found : ℕ) → home < n → place < n → (home ≤ place → found ≡ place - home) → (place < home → found ≡ place + (n - home))
    → ((home + found) % n ≡ place) × (found < n)
steps_are n home place found a b ahead behind =
    ⊎_elim
    (λ (less : place < home).
    let is : found ≡ place + (n - home) = behind less in
    let round : home + found ≡ n + place = omega arith in
    (ap (λ x. x % n) round ∙ add-mod_left n place ∙ mod-eq_of_lt b, omega arith))
    (λ (more : home ≤ place).
    let is : found ≡ place - home = ahead more in
    let round : home + found ≡ place = omega arith in
    (ap (λ x. x % n) round ∙ mod-eq_of_lt b, omega arith))
    (cases_lt place home)

-- a key is reached where its steps are no more than the streak
reached_within : (run : List Bucket) (place streak steps key : ℕ) → place < length run → IsStreak run place streak → steps < length run
    → place_from (length run) key steps ≡ place → steps ≤ streak → IsReached run key place
reached_within run place streak steps key below streaks within ends few =
    let home : hash_of key % length run < length run = mod-lt (hash_of key) (omega arith) in
    record {
      steps = steps;
      within = within;
      ends = ends;
      full = λ step less.
          subst (λ p. IsSome (bucket_at run p)) (back_round (length run) place steps step (hash_of key % length run) below home within ends less)
          (streaks.full (steps - 1 - step) (omega arith));
    }

some_or_none : (a b : Option (ℕ × ℕ)) → a ≡ b → b ≡ None → IsSome a → ⊥
some_or_none None b same none some = absurd cc
some_or_none (Some x) b same none some = absurd cc

-- and not where they are more
not_reached : (run : List Bucket) (place streak steps key : ℕ) → place < length run → IsStreak run place streak → steps < length run
    → place_from (length run) key steps ≡ place → streak < steps → IsReached run key place → ⊥
not_reached run place streak steps key below streaks within ends many reached =
    let home : hash_of key % length run < length run = mod-lt (hash_of key) (omega arith) in
    let same : reached.steps ≡ steps = steps_once (length run) (hash_of key % length run) reached.steps steps home reached.within within (reached.ends ∙ sym ends) in
    let back : steps - 1 - (steps - 1 - streak) ≡ streak = omega arith in
    let there : (length run + place - 1 - streak) % length run ≡ place_from (length run) key (steps - 1 - streak) =
    ap (λ x. (length run + place - 1 - x) % length run) (sym back)
    ∙ back_round (length run) place steps (steps - 1 - streak) (hash_of key % length run) below home within ends (omega arith) in
    some_or_none (bucket_at run (place_from (length run) key (steps - 1 - streak))) _ (ap (bucket_at run) (sym there)) streaks.empty
    (reached.full (steps - 1 - streak) (omega arith))

-- the bucket before the next place is the one at the place
last_round : (run : List Bucket) (place : ℕ) → place < length run → (length run + (place + 1) - 1 - 0) % length run ≡ place
last_round run place below =
    let is : length run + (place + 1) - 1 - 0 ≡ length run + place = omega arith in
    ap (λ x. x % length run) is ∙ add-mod_left (length run) place ∙ mod-eq_of_lt below

-- an empty bucket ends the streak
streak_ends : (run : List Bucket) (place : ℕ) → place < length run → bucket_at run place ≡ None → IsStreak run (place + 1) 0
streak_ends run place below none = record {
  below = omega arith;
  full = λ back less. absurd (omega arith);
  empty = ap (bucket_at run) (last_round run place below) ∙ none;
}

-- a taken one adds to it
streak_more : (run : List Bucket) (place streak : ℕ) → place < length run → IsStreak run place streak → IsSome (bucket_at run place) → IsStreak run (place + 1) (streak + 1)
streak_more run place streak below streaks some = record {
  below = ⊎_elim
      (λ (less : streak + 1 < length run). less)
      (λ (more : length run ≤ streak + 1).
      let is : length run + place - 1 - streak ≡ place = omega (arith, streaks.below) in
      let there : (length run + place - 1 - streak) % length run ≡ place = ap (λ x. x % length run) is ∙ mod-eq_of_lt below in
      absurd (some_or_none (bucket_at run place) _ (ap (bucket_at run) (sym there)) streaks.empty some))
      (cases_lt (streak + 1) (length run));
  full = λ back less. ⊎_elim
      (λ (first : back < 1).
      let zeroth : back ≡ 0 = omega arith in
      let there : (length run + (place + 1) - 1 - back) % length run ≡ place = ap (λ x. (length run + (place + 1) - 1 - x) % length run) zeroth ∙ last_round run place below in
      subst (λ p. IsSome (bucket_at run p)) (sym there) some)
      (λ (later : 1 ≤ back).
      let is : length run + place - 1 - (back - 1) ≡ length run + (place + 1) - 1 - back = omega arith in
      subst (λ x. IsSome (bucket_round run x)) is (streaks.full (back - 1) (omega arith)))
      (cases_lt back 1);
  empty =
      let is : length run + (place + 1) - 1 - (streak + 1) ≡ length run + place - 1 - streak = omega arith in
      ap (bucket_round run) is ∙ streaks.empty;
}

-- the streak before the first place is that of the buckets at the end
streak_of_end : (run : List Bucket) (back : ℕ) → back < length run → ((b : ℕ) → b < back → IsSome (bucket_at run (length run - 1 - b)))
    → bucket_at run (length run - 1 - back) ≡ None → IsStreak run 0 back
streak_of_end run back below full none = record {
  below = below;
  full = λ b less.
      let is : (length run + 0 - 1 - b) % length run ≡ length run - 1 - b =
      ap (λ x. x % length run) (let e : length run + 0 - 1 - b ≡ length run - 1 - b = omega arith in e) ∙ mod-eq_of_lt (let l : length run - 1 - b < length run = omega arith in l) in
      subst (λ p. IsSome (bucket_at run p)) (sym is) (full b less);
  empty =
      let is : (length run + 0 - 1 - back) % length run ≡ length run - 1 - back =
      ap (λ x. x % length run) (let e : length run + 0 - 1 - back ≡ length run - 1 - back = omega arith in e) ∙ mod-eq_of_lt (let l : length run - 1 - back < length run = omega arith in l) in
      ap (bucket_at run) is ∙ none;
}

-- an empty bucket has no key to be reached, and ends the streak
pub passed_empty : (run : List Bucket) (size place : ℕ) → length run ≡ size → place < size → None ≡ bucket_at run place → IsReachedAt run place × IsStreak run (place + 1) 0
passed_empty run size place long below none = (
  λ key value is. let same : None ≡ Some (key, value) = none ∙ is in absurd cc,
  streak_ends run place (omega arith) (sym none),
)

is_some_of : (b : Option (ℕ × ℕ)) (pair : ℕ × ℕ) → Some pair ≡ b → IsSome b
is_some_of b pair is = subst (λ a. IsSome a) is refl

-- a taken one is reached where its steps are no more than the streak, and adds to it
pub passed_taken : (run : List Bucket) (size place streak steps key value : ℕ) → length run ≡ size → place < size → Some (key, value) ≡ bucket_at run place → IsStreak run place streak
    → place_from size key steps ≡ place → steps < size → steps ≤ streak → IsReachedAt run place × IsStreak run (place + 1) (streak + 1)
passed_taken run size place streak steps key value long below is streaks ends within few =
    let there : place_from (length run) key steps ≡ place = ap (λ n. place_from n key steps) long ∙ ends in
    let reached : IsReached run key place = reached_within run place streak steps key (omega arith) streaks (omega arith) there few in (
      λ k v same.
          let one : Some (key, value) ≡ Some (k, v) = is ∙ same in
          let pair : (key, value) ≡ (k, v) = cc in
          subst (λ q. IsReached run q place) (ap (λ (q : ℕ × ℕ). q.0) pair) reached,
      streak_more run place streak (omega arith) streaks (is_some_of (bucket_at run place) (key, value) is),
    )

-- and is not reached where they are more
pub stopped_at : (run : List Bucket) (size place streak steps key value : ℕ) → length run ≡ size → place < size → Some (key, value) ≡ bucket_at run place → IsStreak run place streak
    → place_from size key steps ≡ place → steps < size → streak < steps → IsReachedAt run place → ⊥
stopped_at run size place streak steps key value long below is streaks ends within many reached =
    let there : place_from (length run) key steps ≡ place = ap (λ n. place_from n key steps) long ∙ ends in
    not_reached run place streak steps key (omega arith) streaks (omega arith) there many (reached key value (sym is))

-- the steps that the code computes, from the hash of the key
pub steps_from : (size key hash place found : ℕ) → hash ≡ hash_of key → place < size → (hash % size ≤ place → found ≡ place - hash % size) → (place < hash % size → found ≡ place + (size - hash % size))
    → (place_from size key found ≡ place) × (found < size)
steps_from size key hash place found is below ahead behind =
    let home : hash % size < size = mod-lt hash (omega arith) in
    let are = steps_are size (hash % size) place found home below ahead behind in
    (ap (λ h. (h % size + found) % size) (sym is) ∙ are.0, are.1)

-- where a streak is known, a bucket is empty
pub room_of : (run : List Bucket) (place streak : ℕ) → IsStreak run place streak → (p : ℕ) × (p < length run) × (bucket_at run p ≡ None)
room_of run place streak streaks = ((length run + place - 1 - streak) % length run, mod-lt (length run + place - 1 - streak) (omega (arith, streaks.below)), streaks.empty)

-- one more place whose key is reached
pub reached_more : (run : List Bucket) (place : ℕ) → ((p : ℕ) → p < place → IsReachedAt run p) → IsReachedAt run place → (p : ℕ) → p < place + 1 → IsReachedAt run p
reached_more run place before here p less =
    ⊎_elim
    (λ (earlier : p < place). before p earlier)
    (λ (later : place ≤ p). let same : place ≡ p = omega arith in subst (λ q. IsReachedAt run q) same here)
    (cases_lt p place)

-- a run of taken buckets alone has no room
pub full_not_open : (run : List Bucket) (size back : ℕ) → length run ≡ size → size ≤ back → ((b : ℕ) → b < back → IsSome (bucket_at run (size - 1 - b))) → IsOpen run → ⊥
full_not_open run size back long all full opens =
    let there : size - 1 - (size - 1 - opens.room.0) ≡ opens.room.0 = omega (arith, opens.room.1) in
    some_or_none _ _ (ap (bucket_at run) there) opens.room.2 (full (size - 1 - opens.room.0) (omega (arith, opens.room.1)))

-- the streak at the end, by the size
pub streak_at : (run : List Bucket) (size back : ℕ) → length run ≡ size → back < size → ((b : ℕ) → b < back → IsSome (bucket_at run (size - 1 - b))) → None ≡ bucket_at run (size - 1 - back)
    → IsStreak run 0 back
streak_at run size back long below full none =
    streak_of_end run back (omega arith) (λ b less. subst (λ n. IsSome (bucket_at run (n - 1 - b))) (sym long) (full b less)) (ap (λ n. bucket_at run (n - 1 - back)) long ∙ sym none)
