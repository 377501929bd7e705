-- Lemmas on the row of a place: there is at most one, and not both a row and a reason.
use Rattle.std.proofs.Common.{◌≡◌, ℕ, ◌-◌, ◌≤◌, List, length, All, Result, Ok, Err, arith, refl, sym, ap, subst, inl, inr, ◌∙◌}
use Rattle.std.proofs.lemmas.List.Sorted.{All-permutation, IsPermutation-sym, length_permutation}
use Rattle.hol_varint.specs.Yields.{Yields}
use Rattle.schema_model.specs.declared.schema.Shape.{Shape}
use Rattle.row_model.specs.declared.row.Row.{Row}
use Rattle.schema_model.specs.declared.reason.Reason.{Reason}
use Rattle.row_model.specs.declared.packed.PlaceFault.{PlaceFault}
use Rattle.bucket_codec.specs.Taken.{HasBadValue, TellsPairs}
use Rattle.bucket_codec.specs.Run.{Bucket, taken_of, IsPairInRange, SpellsRun}
use Rattle.bucket_codec.specs.BucketPlace.{run_at, start_at, end_at, key_width, value_width, IsSpan, SpellsPairs, IsRowOf, SpellsBucketRow, FailsBucketRow, TellsBucketRow, TellsPlace, size_at, IsFreePlace}
use Rattle.bucket_codec.proofs.Sorted.{run_once}
use Rattle.bucket_codec.proofs.RunBuckets.{length-run_in}
use Rattle.bucket_codec.proofs.TakenBuckets.{taken_within}

-- pairs are those of one row of a shape
row_of_once : (shape : Shape) (a b : Row) (pairs : List (ℕ × ℕ)) → IsRowOf shape a pairs → IsRowOf shape b pairs → a ≡ b
row_of_once (Shape.Set element) (Row.Set x) (Row.Set y) pairs h k = ap Row.Set (h ∙ sym k)
row_of_once (Shape.Map key value) (Row.Map x) (Row.Map y) pairs h k = ap Row.Map (h ∙ sym k)
row_of_once (Shape.Set element) (Row.Set x) _ pairs h k = absurd k
row_of_once (Shape.Map key value) (Row.Map x) _ pairs h k = absurd k
row_of_once _ _ _ pairs h k = absurd h

-- a place spells at most one row
pub row_once : (shape : Shape) (widths : List ℕ) (total : ℕ) (first second : List ℕ) (place : ℕ) (a b : Row) → SpellsBucketRow shape widths total first second place a
    → SpellsBucketRow shape widths total first second place b → a ≡ b
row_once shape widths total first second place a b (p, p_row, p_spelled) (q, q_row, q_spelled) =
    let same : p ≡ q = run_once (run_at widths first second place) p q p_spelled.run q_spelled.run in
    row_of_once shape a b q (subst (λ l. IsRowOf shape a l) same p_row) q_row

-- it does not both spell a row and fail
pairs_or_reason : (widths : List ℕ) (total : ℕ) (first second : List ℕ) (place : ℕ) (pairs : List (ℕ × ℕ)) (reason : Reason) → SpellsPairs widths total first second place pairs
    → FailsBucketRow widths total first second place reason → ⊥
pairs_or_reason widths total first second place pairs Reason.BadPointers h k = k h.span
pairs_or_reason widths total first second place pairs Reason.BadValue h k =
    k.1 (All-permutation IsPairInRange pairs (taken_of (run_at widths first second place)) (IsPermutation-sym (taken_of (run_at widths first second place)) pairs h.run.same) h.run.ranges)
pairs_or_reason widths total first second place pairs Reason.BadBuckets h k = k.2 pairs h
pairs_or_reason widths total first second place pairs _ h k = k

pub row_or_reason : (shape : Shape) (widths : List ℕ) (total : ℕ) (first second : List ℕ) (place : ℕ) (row : Row) (reason : Reason) → SpellsBucketRow shape widths total first second place row
    → FailsBucketRow widths total first second place reason → ⊥
row_or_reason shape widths total first second place row reason (pairs, is, spelled) k = pairs_or_reason widths total first second place pairs reason spelled k

-- it fails for at most one reason
pub reason_once : (widths : List ℕ) (total : ℕ) (first second : List ℕ) (place : ℕ) (a b : Reason) → FailsBucketRow widths total first second place a
    → FailsBucketRow widths total first second place b → a ≡ b
reason_once widths total first second place Reason.BadPointers Reason.BadPointers h k = refl
reason_once widths total first second place Reason.BadPointers Reason.BadValue h k = absurd (h k.0)
reason_once widths total first second place Reason.BadPointers Reason.BadBuckets h k = absurd (h k.0)
reason_once widths total first second place Reason.BadValue Reason.BadPointers h k = absurd (k h.0)
reason_once widths total first second place Reason.BadValue Reason.BadValue h k = refl
reason_once widths total first second place Reason.BadValue Reason.BadBuckets h k = absurd (h.1 k.1)
reason_once widths total first second place Reason.BadBuckets Reason.BadPointers h k = absurd (k h.0)
reason_once widths total first second place Reason.BadBuckets Reason.BadValue h k = absurd (k.1 h.1)
reason_once widths total first second place Reason.BadBuckets Reason.BadBuckets h k = refl
reason_once widths total first second place Reason.BadPointers _ h k = absurd k
reason_once widths total first second place Reason.BadValue _ h k = absurd k
reason_once widths total first second place Reason.BadBuckets _ h k = absurd k
reason_once widths total first second place _ _ h k = absurd h

-- the reader answers a row exactly where the place spells it
pub row_exact : (shape : Shape) (widths : List ℕ) (total : ℕ) (first second : List ℕ) (place : ℕ) (result : Result Row PlaceFault) → TellsBucketRow shape widths total first second place result
    → (row : Row) → Yields IsFreePlace result (Ok row) (SpellsBucketRow shape widths total first second place row)
row_exact shape widths total first second place (Ok found) told row = (
  λ e. let same : found ≡ row = cc in subst (λ r. SpellsBucketRow shape widths total first second place r) same told,
  λ h. inl (ap Ok (row_once shape widths total first second place found row told h)),
)
row_exact shape widths total first second place (Err (PlaceFault.Bad reason)) told row = (λ e. absurd cc, λ h. absurd (row_or_reason shape widths total first second place row reason h told))
row_exact shape widths total first second place (Err PlaceFault.Memory) told row = (λ e. absurd cc, λ h. inr tt)

-- and a reason exactly where the place fails for it
pub reason_exact : (shape : Shape) (widths : List ℕ) (total : ℕ) (first second : List ℕ) (place : ℕ) (result : Result Row PlaceFault) → TellsBucketRow shape widths total first second place result
    → (reason : Reason) → Yields IsFreePlace result (Err (PlaceFault.Bad reason)) (FailsBucketRow widths total first second place reason)
reason_exact shape widths total first second place (Ok found) told reason = (λ e. absurd cc, λ h. absurd (row_or_reason shape widths total first second place found reason told h))
reason_exact shape widths total first second place (Err (PlaceFault.Bad found)) told reason = (
  λ e. let same : found ≡ reason = cc in subst (λ r. FailsBucketRow widths total first second place r) same told,
  λ h. inl (ap (λ r. Err (PlaceFault.Bad r)) (reason_once widths total first second place found reason told h)),
)
reason_exact shape widths total first second place (Err PlaceFault.Memory) told reason = (λ e. absurd cc, λ h. inr tt)

-- what the reader of a run's pairs tells, of the run of a place
pub place_tells : (widths : List ℕ) (total : ℕ) (first second : List ℕ) (place count : ℕ) (run : List Bucket) (result : Result (List (ℕ × ℕ)) PlaceFault) → IsSpan widths total first second place
    → run ≡ run_at widths first second place → count ≡ size_at widths first place → TellsPairs run count result → TellsPlace widths total first second place result
place_tells widths total first second place count run (Ok pairs) span is sized told = record {
  span = span;
  run = subst (λ r. SpellsRun r pairs) is told.0;
  sized = sym sized ∙ told.1;
}
place_tells widths total first second place count run (Err (PlaceFault.Bad Reason.BadValue)) span is sized told = (span, subst HasBadValue is told)
place_tells widths total first second place count run (Err (PlaceFault.Bad Reason.BadBuckets)) span is sized told = (
  span,
  subst (λ r. All IsPairInRange (taken_of r)) is told.0,
  λ pairs spelled. told.1 pairs (subst (λ r. SpellsRun r pairs) (sym is) spelled.run) (sized ∙ spelled.sized),
)
place_tells widths total first second place count run (Err (PlaceFault.Bad _)) span is sized told = absurd told
place_tells widths total first second place count run (Err PlaceFault.Memory) span is sized told = tt

-- a set or map has no more elements than the total
pub pairs_within : (widths : List ℕ) (total : ℕ) (first second : List ℕ) (place : ℕ) (pairs : List (ℕ × ℕ)) → SpellsPairs widths total first second place pairs → length pairs ≤ total
pairs_within widths total first second place pairs h =
    let same = length_permutation (taken_of (run_at widths first second place)) pairs h.run.same in
    let few = taken_within (run_at widths first second place) in
    let long = length-run_in second (key_width widths) (value_width widths) (start_at widths first place) (end_at widths first place - start_at widths first place) in
    omega (arith, h.span.counted)
