-- A run of buckets spells the set or map of its taken buckets by rising key, or none.
use Rattle.std.proofs.Common.{◌≡◌, ◌⊎◌, inl, inr, ℕ, ◌*◌, ◌^◌, ◌<◌, List, [], ◌∷◌, length, Bool, true, false, None, Some, refl, ap, subst}
use Rattle.std.specs.Prelude.{All, IsSome, is_some}
use Rattle.std.specs.Int.{IsPowerOfTwo}
use Rattle.std.specs.Ordering.{eq_by_cmp, nat_cmp}
use Rattle.std.specs.List.{AllByRecursion, IsDistinct}
use Rattle.std.proofs.lemmas.List.Sorted.{All-permutation}
use Rattle.schema_model.specs.declared.reason.Reason.{Reason}
use Rattle.bucket_codec.specs.Run.{Bucket, IsPairInRange, IsReached, SpellsRun, bucket_at, keys_of, place_from, taken_of}
use Rattle.bucket_codec.specs.BucketPlace.{FailsBucketRow, IsSpan, SpellsPairs, bucket_width, end_at, run_at, size_at, start_at}
use Rattle.type_rows.specs.declared.section.Section.{Section}
use Rattle.type_rows.specs.Rows.{pairs_at, pairs_in}
use Rattle.type_rows.proofs.Deciding.{HoldsOrNot, all_or_not, at_most_or_not, below_or_not, both_hold, each_below, equal_or_not, one_below, power_or_not, true_or_not}
use Rattle.type_rows.proofs.Rows.{keys_differ, pairs_rise, place_again, taken_permute}

-- ---- an empty bucket, and the way to a key

empty_or_not : (bucket : Bucket) → HoldsOrNot (bucket ≡ None)
empty_or_not None = inl refl
empty_or_not (Some pair) = inr (λ e. absurd cc)

taken_or_not : (bucket : Bucket) → HoldsOrNot (IsSome bucket)
taken_or_not bucket = true_or_not (is_some bucket)

reached_or_not : (run : List Bucket) (key place : ℕ) → HoldsOrNot (IsReached run key place)
reached_or_not run key place =
    let on_the_way = λ (steps : ℕ). (place_from (length run) key steps ≡ place) × ((step : ℕ) → step < steps → IsSome (bucket_at run (place_from (length run) key step))) in
    let tried = λ (steps : ℕ). both_hold (equal_or_not (place_from (length run) key steps) place)
    (each_below (λ step. IsSome (bucket_at run (place_from (length run) key step))) (λ step. taken_or_not (bucket_at run (place_from (length run) key step))) steps) in
    elim (one_below on_the_way tried (length run)) [
      | inl h ↦ inl (record { steps = h.0; within = h.1; ends = h.2.0; full = h.2.1 })
      | inr none ↦ inr (λ reached. none (reached.steps, reached.within, (reached.ends, reached.full)))
    ]

-- The pair of a bucket, if it has one, is reached at a place.
abbrev IsReachedFrom : List Bucket → ℕ → Bucket → Type 0
IsReachedFrom run place bucket = (key value : ℕ) → bucket ≡ Some (key, value) → IsReached run key place

bucket_or_not : (run : List Bucket) (place : ℕ) (bucket : Bucket) → HoldsOrNot (IsReachedFrom run place bucket)
bucket_or_not run place None = inl (λ key value is. absurd cc)
bucket_or_not run place (Some pair) = elim (reached_or_not run pair.0 place) [
  | inl reached ↦ inl (λ key value is. (let same : pair ≡ (key, value) = cc in subst (λ k. IsReached run k place) (ap (λ (p : ℕ × ℕ). p.0) same) reached))
  | inr against ↦ inr (λ h. against (h pair.0 pair.1 refl))
]

-- ---- keys that differ

keys_or_not : (keys : List ℕ) → HoldsOrNot (IsDistinct (eq_by_cmp nat_cmp) keys)
unfolding IsDistinct
keys_or_not [] = inl tt
keys_or_not (key ∷ keys) = both_hold (others key keys) (keys_or_not keys)
  where
    false_or_not : (b : Bool) → HoldsOrNot (b ≡ false)
    false_or_not true = inr (λ e. absurd cc)
    false_or_not false = inl refl

    others : (key : ℕ) (keys : List ℕ) → HoldsOrNot (AllByRecursion (λ other. eq_by_cmp nat_cmp key other ≡ false) keys)
    others key [] = inl tt
    others key (other ∷ keys) = both_hold (false_or_not (eq_by_cmp nat_cmp key other)) (others key keys)

-- ---- runs

-- What a run of pairs in range has, where it spells a set or map.
abbrev HasRun : List Bucket → Type 0
HasRun run =
    IsPowerOfTwo (length run) × ((place : ℕ) × (place < length run) × (bucket_at run place ≡ None))
    × ((place : ℕ) → place < length run → IsReachedFrom run place (bucket_at run place)) × IsDistinct (eq_by_cmp nat_cmp) (keys_of (taken_of run))

has_or_not : (run : List Bucket) → HoldsOrNot (HasRun run)
has_or_not run = elim (both_hold (power_or_not (length run)) (both_hold (one_below (λ place. bucket_at run place ≡ None) (λ place. empty_or_not (bucket_at run place)) (length run))
    (both_hold (each_below (λ place. IsReachedFrom run place (bucket_at run place)) (λ place. bucket_or_not run place (bucket_at run place)) (length run)) (keys_or_not (keys_of (taken_of run)))))) [
      | inl h ↦ inl (h.0, h.1.0, h.1.1.0, h.1.1.1)
      | inr against ↦ inr (λ h. against (h.0, (h.1, (h.2, h.3))))
    ]

run_or_not : (run : List Bucket) → All IsPairInRange (taken_of run) → HoldsOrNot (SpellsRun run (pairs_in run))
run_or_not run ranges = elim (has_or_not run) [
  | inl h ↦ inl (record {
    power = h.0;
    room = h.1;
    reached = h.2;
    rises = pairs_rise run;
    same = taken_permute run h.3;
    ranges = All-permutation IsPairInRange (taken_of run) (pairs_in run) (taken_permute run h.3) ranges;
  })
  | inr against ↦ inr (λ spelled. against (spelled.power, spelled.room, spelled.reached, keys_differ run (pairs_in run) spelled))
]

-- ---- places

span_or_not : (widths : List ℕ) (total : ℕ) (first second : List ℕ) (place : ℕ) → HoldsOrNot (IsSpan widths total first second place)
span_or_not widths total first second place =
    elim (both_hold (at_most_or_not (start_at widths first place) (end_at widths first place))
    (both_hold (at_most_or_not (end_at widths first place) total) (at_most_or_not (end_at widths first place * bucket_width widths) (64 * length second)))) [
      | inl h ↦ inl (record { rises = h.0; counted = h.1.0; held = h.1.1 })
      | inr against ↦ inr (λ span. against (span.rises, (span.counted, span.held)))
    ]

range_or_not : (pair : ℕ × ℕ) → HoldsOrNot (IsPairInRange pair)
range_or_not pair = both_hold (below_or_not pair.0 (2 ^ 32)) (below_or_not pair.1 (2 ^ 32))

-- The place spells the pairs that are computed, or fails for a reason.
pub pairs_or_fail : (section : Section) (place : ℕ) → SpellsPairs section.widths section.total section.first section.second place (pairs_at section place)
    ⊎ ((reason : Reason) × FailsBucketRow section.widths section.total section.first section.second place reason)
pairs_or_fail section place =
    let run = run_at section.widths section.first section.second place in
    elim (span_or_not section.widths section.total section.first section.second place) [
      | inr bad ↦ inr (Reason.BadPointers, bad)
      | inl span ↦ elim (all_or_not IsPairInRange range_or_not (taken_of run)) [
        | inr bad ↦ inr (Reason.BadValue, (span, bad))
        | inl ranges ↦ elim (both_hold (run_or_not run ranges) (equal_or_not (size_at section.widths section.first place) (length (pairs_in run)))) [
          | inl h ↦ inl (record { span = span; run = h.0; sized = h.1 })
          | inr against ↦ inr (Reason.BadBuckets, (span, ranges, λ pairs spelled. (let again = place_again section place pairs spelled in against (again.run, again.sized))))
        ]
      ]
    ]
