-- Lemmas on rows as they are written, place by place.
use Rattle.std.proofs.Common.{◌≡◌, ℕ, zero, suc, ◌+◌, ◌-◌, ◌*◌, ◌^◌, ◌<◌, ◌≤◌, List, [], ◌∷◌, length, All, Option, Some, None, cond, eqb, arith, refl, sym, ap, subst, ◌∙◌}
use Rattle.std.specs.Int.{IsPowerOfTwo}
use Rattle.std.proofs.Math.Nat.{mul-le-mul_right}
use Rattle.std.proofs.lemmas.List.Sorted.{length_permutation}
use Rattle.bit_array.specs.Element.{element_of}
use Rattle.row_model.specs.Row.{Rises}
use Rattle.row_model.specs.declared.row.Row.{Row}
use Rattle.bucket_codec.specs.BucketCount.{IsBucketCount, bucket_count}
use Rattle.bucket_codec.specs.Run.{Bucket, bucket_at, bucket_in, value_in, run_in, taken_of, keys_of, IsPairInRange, IsZeroIfEmpty, SpellsRun}
use Rattle.bucket_codec.specs.Filled.{KeepsFront, IsFilled}
use Rattle.bucket_codec.specs.BucketPlace.{pointer_width, size_width, key_width, value_width, place_width, bucket_width, start_at, end_at, size_at, run_at, IsSpan, SpellsPairs}
use Rattle.bucket_codec.specs.Packed.{pairs_of, PacksPairs, LaysRun}
use Rattle.bucket_codec.proofs.RunBuckets.{length-run_in}
use Rattle.bucket_codec.proofs.Filling.{same_run}
use Rattle.bucket_codec.proofs.Behind.{zero_stays}

-- the number of buckets is a power of two
pub count_power : (n count : ℕ) → IsBucketCount n count → IsPowerOfTwo count
count_power zero count h = (0, h)
count_power (suc zero) count h = (1, h)
count_power (suc (suc zero)) count h = (2, h)
count_power (suc (suc (suc n))) count h = h.power

-- a run with fewer pairs than buckets has an empty one
pub empty_place : (run : List Bucket) → length (taken_of run) < length run → (place : ℕ) × (place < length run) × (bucket_at run place ≡ None)
empty_place [] few = absurd (omega arith)
empty_place (None ∷ run) few = (zero, omega arith, refl)
empty_place (Some p ∷ run) few = let later = empty_place run (omega arith) in (suc later.0, omega (arith, later.1), later.2)

-- the run that is filled spells its pairs
run_spelled : (run : List Bucket) (size : ℕ) (pairs : List (ℕ × ℕ)) → length run ≡ size → IsPowerOfTwo size → length pairs < size → IsFilled run pairs → All IsPairInRange pairs → Rises (keys_of pairs)
    → SpellsRun run pairs
run_spelled run size pairs long power room filled ranges rises = record {
  power = subst (λ n. IsPowerOfTwo n) (sym long) power;
  room = empty_place run (omega (arith, length_permutation (taken_of run) pairs filled.same));
  reached = filled.reached;
  rises = rises;
  same = filled.same;
  ranges = ranges;
}

-- the run that a place has, by its start and its end
pub run_at_is : (widths first second : List ℕ) (place start size : ℕ) → start_at widths first place ≡ start → end_at widths first place ≡ start + size
    → run_at widths first second place ≡ run_in second (key_width widths) (value_width widths) start size
run_at_is widths first second place start size starts ends =
    let long : end_at widths first place - start_at widths first place ≡ size = omega (arith, starts, ends) in
    ap (λ s. run_in second (key_width widths) (value_width widths) s (end_at widths first place - start_at widths first place)) starts
    ∙ ap (λ n. run_in second (key_width widths) (value_width widths) start n) long

-- a place whose pointer, size and run are written spells the pairs
pub pairs_spelled : (widths first second : List ℕ) (place start size : ℕ) (pairs : List (ℕ × ℕ)) → start_at widths first place ≡ start → end_at widths first place ≡ start + size
    → size_at widths first place ≡ length pairs → (start + size) * bucket_width widths ≤ 64 * length second → IsPowerOfTwo size → length pairs < size
    → IsFilled (run_in second (key_width widths) (value_width widths) start size) pairs → All IsPairInRange pairs → Rises (keys_of pairs) → SpellsPairs widths (start + size) first second place pairs
pairs_spelled widths first second place start size pairs starts ends sized inside power room filled ranges rises =
    let spelled = run_spelled (run_in second (key_width widths) (value_width widths) start size) size pairs (length-run_in second (key_width widths) (value_width widths) start size) power room filled ranges rises in
    let same = run_at_is widths first second place start size starts ends in
    record {
      span = record {
        rises = omega (arith, starts, ends);
        counted = omega (arith, ends);
        held = subst (λ e. e * bucket_width widths ≤ 64 * length second) (sym ends) inside;
      };
      run = subst (λ r. SpellsRun r pairs) (sym same) spelled;
      sized = sized;
    }

-- the pointer of a place before stays
pub end_stays : (widths old new : List ℕ) (limit place : ℕ) → KeepsFront old new limit → (place + 1) * place_width widths ≤ limit → end_at widths new place ≡ end_at widths old place
end_stays widths old new limit place kept inside = kept.front (place * place_width widths) (pointer_width widths) (omega (arith, inside))

size_stays : (widths old new : List ℕ) (limit place : ℕ) → KeepsFront old new limit → (place + 1) * place_width widths ≤ limit → size_at widths new place ≡ size_at widths old place
size_stays widths old new limit place kept inside = kept.front (place * place_width widths + pointer_width widths) (size_width widths) (omega (arith, inside))

pub start_stays : (widths old new : List ℕ) (limit place : ℕ) → KeepsFront old new limit → place * place_width widths ≤ limit → start_at widths new place ≡ start_at widths old place
start_stays widths old new limit zero kept inside = refl
start_stays widths old new limit (suc earlier) kept inside = end_stays widths old new limit earlier kept (let one : earlier + 1 ≡ suc earlier = omega arith in subst (λ p. p * place_width widths ≤ limit) (sym one) inside)

-- a bucket before the limit stays
bucket_stays : (old new : List ℕ) (k v limit index : ℕ) → KeepsFront old new limit → (index + 1) * (k + v) ≤ limit → bucket_in new k v index ≡ bucket_in old k v index
bucket_stays old new k v limit index kept inside =
    let key_is : element_of new (index * (k + v)) k ≡ element_of old (index * (k + v)) k = kept.front (index * (k + v)) k (omega (arith, inside)) in
    let value_is : element_of new (index * (k + v) + k) v ≡ element_of old (index * (k + v) + k) v = kept.front (index * (k + v) + k) v (omega (arith, inside)) in
    ap (λ x. cond (eqb x (2 ^ k - 1)) None (Some (x, element_of new (index * (k + v) + k) v))) key_is
    ∙ ap (λ y. cond (eqb (element_of old (index * (k + v)) k) (2 ^ k - 1)) None (Some (element_of old (index * (k + v)) k, y))) value_is

-- and has the value 0 if it is empty and had it
pub zero_kept : (old new : List ℕ) (k v limit index : ℕ) → KeepsFront old new limit → (index + 1) * (k + v) ≤ limit → IsZeroIfEmpty old k v index → IsZeroIfEmpty new k v index
zero_kept old new k v limit index kept inside known =
    let value : value_in new k v index ≡ value_in old k v index = kept.front (index * (k + v) + k) v (omega (arith, inside)) in
    zero_stays old new k v index (bucket_stays old new k v limit index kept inside) value known

-- a run before the limit stays
run_stays : (old new : List ℕ) (k v limit start size : ℕ) → KeepsFront old new limit → (start + size) * (k + v) ≤ limit → run_in new k v start size ≡ run_in old k v start size
run_stays old new k v limit start size kept inside = same_run (bucket_in old k v) (bucket_in new k v) start size (λ index above below.
    let up : (index + 1) * (k + v) ≤ (start + size) * (k + v) = mul-le-mul_right (k + v) (let l : index + 1 ≤ start + size = omega arith in l) in
    bucket_stays old new k v limit index kept (omega (arith, up, inside)))

-- and that of a place
run_at_stays : (widths first second first' second' : List ℕ) (limit bound place total : ℕ) → KeepsFront first first' limit → KeepsFront second second' bound
    → (place + 1) * place_width widths ≤ limit → total * bucket_width widths ≤ bound → IsSpan widths total first second place → run_at widths first' second' place ≡ run_at widths first second place
run_at_stays widths first second first' second' limit bound place total kept kept' inside within span =
    let before : place * place_width widths ≤ limit = omega (arith, inside) in
    let ends = end_stays widths first first' limit place kept inside in
    let starts = start_stays widths first first' limit place kept before in
    let under : end_at widths first place * bucket_width widths ≤ total * bucket_width widths = mul-le-mul_right (bucket_width widths) span.counted in
    let reach : start_at widths first place + (end_at widths first place - start_at widths first place) ≡ end_at widths first place = omega (arith, span.rises) in
    ap (λ s. run_in second' (key_width widths) (value_width widths) s (end_at widths first' place - s)) starts
    ∙ ap (λ e. run_in second' (key_width widths) (value_width widths) (start_at widths first place) (e - start_at widths first place)) ends
    ∙ run_stays second second' (key_width widths) (value_width widths) bound (start_at widths first place) (end_at widths first place - start_at widths first place) kept'
    (subst (λ e. e * bucket_width widths ≤ bound) (sym reach) (omega (arith, under, within)))

-- so its pairs stay where they were put
pub lays_stay : (widths first second first' second' : List ℕ) (limit bound place total : ℕ) (row : Option Row) → KeepsFront first first' limit → KeepsFront second second' bound
    → (place + 1) * place_width widths ≤ limit → total * bucket_width widths ≤ bound → PacksPairs widths total first second place row → LaysRun widths first second place row
    → LaysRun widths first' second' place row
lays_stay widths first second first' second' limit bound place total None kept kept' inside within packs laid = tt
lays_stay widths first second first' second' limit bound place total (Some row) kept kept' inside within packs laid =
    run_at_stays widths first second first' second' limit bound place total kept kept' inside within packs.1.span ∙ laid

-- what a place has stays where the bits before stay, and within more buckets
pub packs_stay : (widths first second first' second' : List ℕ) (limit bound place total total' : ℕ) (row : Option Row) → KeepsFront first first' limit → KeepsFront second second' bound
    → (place + 1) * place_width widths ≤ limit → total * bucket_width widths ≤ bound → total ≤ total' → PacksPairs widths total first second place row → PacksPairs widths total' first' second' place row
packs_stay widths first second first' second' limit bound place total total' None kept kept' inside within more packs =
    let before : place * place_width widths ≤ limit = omega (arith, inside) in (
      end_stays widths first first' limit place kept inside ∙ packs.0 ∙ sym (start_stays widths first first' limit place kept before),
      size_stays widths first first' limit place kept inside ∙ packs.1,
    )
packs_stay widths first second first' second' limit bound place total total' (Some row) kept kept' inside within more packs =
    let before : place * place_width widths ≤ limit = omega (arith, inside) in
    let ends = end_stays widths first first' limit place kept inside in
    let starts = start_stays widths first first' limit place kept before in
    let sizes = size_stays widths first first' limit place kept inside in
    let span = packs.1.span in
    let run = run_at_stays widths first second first' second' limit bound place total kept kept' inside within span in (
      ends ∙ packs.0 ∙ ap (λ s. s + bucket_count (length (pairs_of row))) (sym starts),
      record {
        span = record {
          rises = omega (arith, span.rises, starts, ends);
          counted = omega (arith, span.counted, ends, more);
          held = subst (λ e. e * bucket_width widths ≤ 64 * length second') (sym ends) (omega (arith, span.held, kept'.long));
        };
        run = subst (λ r. SpellsRun r (pairs_of row)) (sym run) packs.1.run;
        sized = sizes ∙ packs.1.sized;
      },
    )
