-- Lemmas on what is told of a run: why it spells no set or map of so many pairs, and that it spells one.
use Rattle.std.proofs.Common.{◌≡◌, ℕ, ◌≤◌, List, length, MatchOption, Option, None, Some, Ok, arith, refl, sym, subst, ◌∙◌}
use Rattle.std.specs.Int.{IsPowerOfTwo}
use Rattle.std.specs.List.Sorted.{IsPermutation, IsNonDecreasingBy}
use Rattle.std.proofs.lemmas.List.Sorted.{length_permutation, All-permutation, IsPermutation-trans, IsPermutation-sym}
use Rattle.row_model.specs.Row.{Rises}
use Rattle.bucket_codec.specs.Run.{Bucket, taken_of, keys_of, IsPairInRange, SpellsRun}
use Rattle.bucket_codec.specs.Streak.{IsOpen}
use Rattle.bucket_codec.specs.Taken.{TellsPairs}
use Rattle.bucket_codec.specs.Buckets.{FindsEach, IsCounted, SpellsSome}
use Rattle.bucket_codec.proofs.Sorted.{sorted_is}
use Rattle.bucket_codec.proofs.FoundKeys.{counted_spelled, room_spelled, finds_spelled, spells_found}

-- why a run spells no set or map of so many pairs: there are more or fewer of them
pub other_count : (run : List Bucket) (count taken : ℕ) → taken ≡ length (taken_of run) → (taken ≡ count → ⊥) → (pairs : List (ℕ × ℕ)) → SpellsRun run pairs → count ≡ length pairs → ⊥
other_count run count taken is other pairs spelled sized = other (is ∙ sym (counted_spelled run pairs spelled) ∙ sym sized)

-- no bucket is empty
pub no_room : (run : List Bucket) (size count : ℕ) → length run ≡ size → size ≤ count → (pairs : List (ℕ × ℕ)) → SpellsRun run pairs → count ≡ length pairs → ⊥
no_room run size count long full pairs spelled sized = omega (arith, long, full, sized, counted_spelled run pairs spelled, room_spelled run pairs spelled)

-- there are no power of two of them
pub no_power : (run : List Bucket) (size count : ℕ) → length run ≡ size → (IsPowerOfTwo size → ⊥) → (pairs : List (ℕ × ℕ)) → SpellsRun run pairs → count ≡ length pairs → ⊥
no_power run size count long not pairs spelled sized = not (subst (λ n. IsPowerOfTwo n) long spelled.power)

-- a key is not found where it stands
pub not_found : (run : List Bucket) (count : ℕ) → (FindsEach run → ⊥) → (pairs : List (ℕ × ℕ)) → SpellsRun run pairs → count ≡ length pairs → ⊥
not_found run count not pairs spelled sized = not (finds_spelled run pairs spelled)

-- or a key is not reached
pub not_open : (run : List Bucket) (count : ℕ) → (IsOpen run → ⊥) → (pairs : List (ℕ × ℕ)) → SpellsRun run pairs → count ≡ length pairs → ⊥
not_open run count not pairs spelled sized = not (record { room = spelled.room; reached = spelled.reached })

-- or a key stands twice
pub no_rise : (run : List Bucket) (taken sorted : List (ℕ × ℕ)) (count : ℕ) → taken ≡ taken_of run → IsPermutation taken sorted → IsNonDecreasingBy (λ p. p.0) sorted
    → (Rises (keys_of sorted) → ⊥) → (pairs : List (ℕ × ℕ)) → SpellsRun run pairs → count ≡ length pairs → ⊥
no_rise run taken sorted count are same up not pairs spelled sized =
    let moved : IsPermutation (taken_of run) sorted = subst (λ l. IsPermutation l sorted) are same in
    let is : sorted ≡ pairs = sorted_is sorted pairs up spelled.rises (IsPermutation-trans sorted (taken_of run) pairs (IsPermutation-sym (taken_of run) sorted moved) spelled.same) in
    not (subst (λ l. Rises (keys_of l)) (sym is) spelled.rises)

-- none of these
pub spells : (run : List Bucket) (taken sorted : List (ℕ × ℕ)) (count : ℕ) → IsCounted run count → IsOpen run → taken ≡ taken_of run → IsPermutation taken sorted → Rises (keys_of sorted)
    → TellsPairs run count (Ok sorted)
spells run taken sorted count counted opens are same rises =
    let moved : IsPermutation (taken_of run) sorted = subst (λ l. IsPermutation l sorted) are same in (
      record {
        power = counted.power;
        room = opens.room;
        reached = opens.reached;
        rises = rises;
        same = moved;
        ranges = All-permutation IsPairInRange (taken_of run) sorted moved counted.ranges;
      },
      counted.taken ∙ sym (length_permutation (taken_of run) sorted moved),
    )

-- nor is a key found elsewhere than it stands
pub spells_counted : (run : List Bucket) (count : ℕ) → IsCounted run count → FindsEach run → SpellsSome run count
spells_counted run count counted finds = spells_found run (length run) count refl counted.ranges counted.taken counted.room counted.power finds

-- ---- an answer of the walk over a run

pub told_none : (P : Type 0) (Q : ℕ → Type 0) (found : Option ℕ) → found ≡ None → MatchOption found P Q → P
told_none P Q None is told = told
told_none P Q (Some taken) is told = absurd cc

pub told_some : (P : Type 0) (Q : ℕ → Type 0) (found : Option ℕ) (taken : ℕ) → found ≡ Some taken → MatchOption found P Q → Q taken
told_some P Q None taken is told = absurd cc
told_some P Q (Some other) taken is told = let same : other ≡ taken = cc in subst Q same told
