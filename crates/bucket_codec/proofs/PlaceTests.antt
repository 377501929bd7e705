-- Lemmas on places that are looked at and tested: what they hold, and what is told of them by their runs.
use Rattle.std.proofs.Common.{◌≡◌, ℕ, ◌+◌, ◌-◌, ◌*◌, ◌≤◌, List, length, Option, Result, Ok, Err, MatchOption, arith, sym, subst, ◌∙◌}
use Rattle.std.proofs.Math.Nat.{mul-le-mul_right}
use Rattle.schema_model.specs.declared.schema.Shape.{Shape}
use Rattle.schema_model.specs.declared.reason.Reason.{Reason}
use Rattle.row_model.specs.declared.row.Row.{Row}
use Rattle.row_model.specs.declared.packed.PlaceFault.{PlaceFault}
use Rattle.bucket_codec.specs.Run.{Bucket, SpellsRun}
use Rattle.bucket_codec.specs.Buckets.{IsFaultOf, SpellsSome}
use Rattle.bucket_codec.specs.BucketRows.{HoldsBuckets}
use Rattle.bucket_codec.specs.BucketPlace.{place_width, run_at, size_at, HoldsPlace, IsSpan, IsWidthCount, SpellsPairs, FailsBucketRow, TellsBucketRow, TellsPlace}

-- a place of a type that can be read can be looked at
pub holds_of : (shape : Shape) (widths first second : List ℕ) (place : ℕ) → HoldsPlace shape widths first second place → HoldsBuckets widths first second place
holds_of shape widths first second place h = record { three = three_of shape (length widths) h.counted; holds = h.pointers; few = h.few }
  where
    three_of : (shape : Shape) (count : ℕ) → IsWidthCount shape count → 3 ≤ count
    three_of (Shape.Set element) count is = omega (arith, is)
    three_of (Shape.Map key value) count is = omega (arith, is)
    three_of _ count is = absurd is

-- and so can the place before it
pub held_before : (widths first second : List ℕ) (place : ℕ) → (place ≡ 0 → ⊥) → HoldsBuckets widths first second place → HoldsBuckets widths first second (place - 1)
held_before widths first second place some h =
    let one : place - 1 + 1 ≡ place = omega (arith, λ (e : place ≡ 0). some e) in
    let up : place * place_width widths ≤ (place + 1) * place_width widths = mul-le-mul_right (place_width widths) (omega arith) in
    let within = h.holds.within in
    record {
      three = h.three;
      holds = record {
        narrow = h.holds.narrow;
        within = subst (λ n. n * place_width widths ≤ 64 * length first) (sym one) (omega (arith, up, within));
        below = omega (arith, h.holds.below);
      };
      few = h.few;
    }

-- the parts of a type as they were lent
module _ (shape : Shape) (total place : ℕ) (widths first second widths' first' second' : List ℕ) (a : widths' ≡ widths) (b : first' ≡ first) (c : second' ≡ second) where
  pub parts_hold : HoldsPlace shape widths first second place → HoldsPlace shape widths' first' second' place
  parts_hold h = subst (λ x. HoldsPlace shape x first' second' place) (sym a) (subst (λ x. HoldsPlace shape widths x second' place) (sym b) (subst (λ x. HoldsPlace shape widths first x place) (sym c) h))

  pub parts_tell : (result : Result Row PlaceFault) → TellsBucketRow shape widths' total first' second' place result → TellsBucketRow shape widths total first second place result
  parts_tell result h =
      subst (λ x. TellsBucketRow shape x total first second place result) a
      (subst (λ x. TellsBucketRow shape widths' total x second place result) b (subst (λ x. TellsBucketRow shape widths' total first' x place result) c h))

-- what the test of a place's run tells
module _ (widths : List ℕ) (total : ℕ) (first second : List ℕ) (place : ℕ) where
  pub spells_there : (run : List Bucket) (count : ℕ) → IsSpan widths total first second place → run ≡ run_at widths first second place → count ≡ size_at widths first place → SpellsSome run count
      → (pairs : List (ℕ × ℕ)) × SpellsPairs widths total first second place pairs
  spells_there run count span is sized some = (some.0, record { span = span; run = subst (λ r. SpellsRun r some.0) is some.1; sized = sym sized ∙ some.2 })

  pub fault_is : (read : Result (List (ℕ × ℕ)) PlaceFault) (found : Option Reason) → IsFaultOf read found → TellsPlace widths total first second place read
      → MatchOption found ((pairs : List (ℕ × ℕ)) × SpellsPairs widths total first second place pairs) (FailsBucketRow widths total first second place)
  fault_is (Ok pairs) found is told = subst (λ f. MatchOption f ((pairs : List (ℕ × ℕ)) × SpellsPairs widths total first second place pairs) (FailsBucketRow widths total first second place)) (sym is) (pairs, told)
  fault_is (Err (PlaceFault.Bad reason)) found is told = subst (λ f. MatchOption f ((pairs : List (ℕ × ℕ)) × SpellsPairs widths total first second place pairs) (FailsBucketRow widths total first second place)) (sym is) told
  fault_is (Err PlaceFault.Memory) found is told = absurd is
