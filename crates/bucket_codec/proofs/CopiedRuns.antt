-- Lemmas on runs that are copied to other words: the copy is the same run, and a place that has it spells what the run spells.
use Rattle.std.proofs.Common.{◌≡◌, ◌≢◌, ℕ, zero, suc, ◌+◌, ◌-◌, ◌*◌, ◌^◌, ◌<◌, ◌≤◌, ◌⊎◌, inl, inr, List, [], ◌∷◌, length, map, All, Bool, true, false, Some, None, cond, eqb, arith, refl, sym, ap, subst, ⊎_elim, ◌∙◌}
use Rattle.std.specs.List.{range_with_len}
use Rattle.std.proofs.Math.Nat.{mul-le-mul_right}
use Rattle.std.proofs.Math.Pow.{pow_mono}
use Rattle.std.proofs.lemmas.Bool.{cases_order}
use Rattle.std.proofs.lemmas.List.{get_or_past}
use Rattle.std.proofs.lemmas.List.Elements.{All-nil, All-cons, All-contains}
use Rattle.std.proofs.lemmas.List.Sorted.{All-permutation, IsPermutation-sym}
use Rattle.bit_array.specs.Element.{element_of}
use Rattle.bit_array.proofs.Elements.{element_of-lt}
use Rattle.schema_model.specs.declared.schema.Shape.{Shape}
use Rattle.row_model.specs.declared.row.Row.{Row}
use Rattle.bucket_codec.specs.BucketCount.{bucket_count}
use Rattle.bucket_codec.specs.BucketPlace.{pointer_width, key_width, value_width, place_width, bucket_width, start_at, end_at, size_at, run_at, IsWidthCount, SpellsBucketRow, SpellsPairs}
use Rattle.bucket_codec.specs.Filled.{KeepsFront, KeepsBack, IsCopied}
use Rattle.bucket_codec.specs.Packed.{set_pair, pairs_of, IsRunOf, PacksPairs}
use Rattle.bucket_codec.specs.Run.{Bucket, bucket_at, bucket_in, run_in, keys_of, taken_of, HoldsRun, SpellsRun}
use Rattle.bucket_codec.proofs.Behind.{back_both}
use Rattle.bucket_codec.proofs.Members.{taken_has}
use Rattle.bucket_codec.proofs.Placed.{narrow_any}
use Rattle.bucket_codec.proofs.Rows.{run_at_is, start_stays}
use Rattle.bucket_codec.proofs.RunBuckets.{bucket_of_run, length-run_in}
use Rattle.bucket_codec.proofs.Writing.{kept_both}

-- buckets that are those of a run, one by one, are the run
buckets_are : (f : ℕ → Bucket) (start size : ℕ) (run : List Bucket) → length run ≡ size → ((index : ℕ) → index < size → f (start + index) ≡ bucket_at run index) → map f (range_with_len start size) ≡ run
buckets_are f start zero [] long each = refl
buckets_are f start zero (b ∷ run) long each = absurd (omega arith)
buckets_are f start (suc size) [] long each = absurd (omega arith)
buckets_are f start (suc size) (b ∷ run) long each =
    let none : start + 0 ≡ start = omega arith in
    let head : f start ≡ b = ap f (sym none) ∙ each 0 (omega arith) in
    let tail : map f (range_with_len (start + 1) size) ≡ run =
    buckets_are f (start + 1) size run (omega arith) (λ index below. let on : start + 1 + index ≡ start + suc index = omega arith in ap f on ∙ each (suc index) (omega arith)) in
    cc

-- ---- the bits at once

-- a bucket whose bits are copied is the same
bucket_copied : (from to : List ℕ) (k v there here place : ℕ) → element_of to (here * (k + v)) k ≡ element_of from (there * (k + v)) k
    → element_of to (here * (k + v) + k) v ≡ element_of from (there * (k + v) + k) v → bucket_in to k v here ≡ bucket_in from k v there
bucket_copied from to k v there here place key value =
    ap (λ x. cond (eqb x (2 ^ k - 1)) None (Some (x, element_of to (here * (k + v) + k) v))) key
    ∙ ap (λ y. cond (eqb (element_of from (there * (k + v)) k) (2 ^ k - 1)) None (Some (element_of from (there * (k + v)) k, y))) value

pub whole_copied : (from old new : List ℕ) (k v there start size : ℕ)
    → ((bit width : ℕ) → bit + width ≤ size * (k + v) → element_of new (start * (k + v) + bit) width ≡ element_of from (there * (k + v) + bit) width)
    → ((bit width : ℕ) → (bit + width ≤ start * (k + v)) ⊎ (start * (k + v) + size * (k + v) ≤ bit) → element_of new bit width ≡ element_of old bit width)
    → length new ≡ length old → IsCopied old new k v start size (run_in from k v there size)
whole_copied from old new k v there start size each others long = record {
  is = buckets_are (bucket_in new k v) start size (run_in from k v there size) (length-run_in from k v there size) (λ index below. same index below ∙ sym (bucket_of_run from k v there size index below));
  front = record { long = long; front = λ bit width inside. others bit width (inl inside) };
  back = λ bit width behind. others bit width (inr (omega (arith, behind)));
}
  where
    same : (index : ℕ) → index < size → bucket_in new k v (start + index) ≡ bucket_in from k v (there + index)
    same index below =
        let up : (index + 1) * (k + v) ≤ size * (k + v) = mul-le-mul_right (k + v) (let l : index + 1 ≤ size = omega arith in l) in
        let here : start * (k + v) + index * (k + v) ≡ (start + index) * (k + v) = omega arith in
        let at : there * (k + v) + index * (k + v) ≡ (there + index) * (k + v) = omega arith in
        let here' : start * (k + v) + (index * (k + v) + k) ≡ (start + index) * (k + v) + k = omega arith in
        let at' : there * (k + v) + (index * (k + v) + k) ≡ (there + index) * (k + v) + k = omega arith in
        bucket_copied from new k v (there + index) (start + index) index
        (ap (λ n. element_of new n k) (sym here) ∙ each (index * (k + v)) k (omega (arith, up)) ∙ ap (λ n. element_of from n k) at)
        (ap (λ n. element_of new n v) (sym here') ∙ each (index * (k + v) + k) v (omega (arith, up)) ∙ ap (λ n. element_of from n v) at')

-- ---- one bucket after the other

-- the first so many buckets are those of the run, and no bit outside has changed
pub record IsCopying (old new : List ℕ) (k v start size : ℕ) (run : List Bucket) (count : ℕ) : Type 0 where
  pub each : (index : ℕ) → index < count → bucket_in new k v (start + index) ≡ bucket_at run index
  pub front : KeepsFront old new (start * (k + v))
  pub back : KeepsBack old new ((start + size) * (k + v))

pub copied_more : (old mid new : List ℕ) (k v start size : ℕ) (run : List Bucket) (count : ℕ) → count < size → IsCopying old mid k v start size run count
    → bucket_in new k v (start + count) ≡ bucket_at run count
    → ((index : ℕ) → index ≢ start + count → bucket_in new k v index ≡ bucket_in mid k v index)
    → KeepsFront mid new ((start + count) * (k + v)) → KeepsBack mid new ((start + count + 1) * (k + v)) → IsCopying old new k v start size run (count + 1)
copied_more old mid new k v start size run count inside done here others front back =
    let from : start * (k + v) ≤ (start + count) * (k + v) = mul-le-mul_right (k + v) (let l : start ≤ start + count = omega arith in l) in
    let to : (start + count + 1) * (k + v) ≤ (start + size) * (k + v) = mul-le-mul_right (k + v) (let l : start + count + 1 ≤ start + size = omega arith in l) in
    record {
      each = λ index below. ⊎_elim
          (λ (same : index ≡ count). ap (λ i. bucket_in new k v (start + i)) same ∙ here ∙ ap (bucket_at run) (sym same))
          (λ (apart : (index < count) ⊎ (count < index)). ⊎_elim
          (λ (less : index < count). others (start + index) (λ e. omega arith) ∙ done.each index less)
          (λ (more : count < index). absurd (omega arith))
          apart)
          (cases_order index count);
      front = kept_both old mid new (start * (k + v)) ((start + count) * (k + v)) (start * (k + v)) done.front front (omega arith) from;
      back = back_both old mid new ((start + size) * (k + v)) ((start + count + 1) * (k + v)) ((start + size) * (k + v)) done.back back (omega arith) to;
    }

pub copied_all : (old new : List ℕ) (k v start size : ℕ) (run : List Bucket) (count : ℕ) → size ≤ count → length run ≡ size → IsCopying old new k v start size run count
    → IsCopied old new k v start size run
copied_all old new k v start size run count all long done = record {
  is = buckets_are (bucket_in new k v) start size run long (λ index below. done.each index (omega arith));
  front = done.front;
  back = done.back;
}

-- what the bucket at an index holds has what all taken buckets hold
pub taken_fits : (P : ℕ × ℕ → Type 0) (run : List Bucket) (index : ℕ) (pair : ℕ × ℕ) → All P (taken_of run) → index < length run → Some pair ≡ bucket_at run index → P pair
taken_fits P run index pair all below is = All-contains P (taken_of run) pair all (taken_has run index pair below (sym is))

-- ---- a place that has the copy

-- what a row's pairs have, the taken buckets of its run have
pub taken_all : (P : ℕ × ℕ → Type 0) (run : List Bucket) (size : ℕ) (row : Row) → IsRunOf run size row → All P (pairs_of row) → All P (taken_of run)
taken_all P run size row is all = All-permutation P (pairs_of row) (taken_of run) (IsPermutation-sym (taken_of run) (pairs_of row) is.spells.same) all

-- the copy lies within the words
pub copy_held : (widths second : List ℕ) (start size kw vw : ℕ) → All (λ width. width ≤ 64) widths → start + size < 2 ^ pointer_width widths
    → (start + size) * bucket_width widths ≤ 64 * length second → 64 * length second < 2 ^ 64 → kw ≡ key_width widths → vw ≡ value_width widths → HoldsRun second kw vw start size
copy_held widths second start size kw vw narrow pointer inside few key value =
    let small : 2 ^ pointer_width widths ≤ 2 ^ 64 = pow_mono (narrow_any widths 0 narrow) in
    let both : kw + vw ≡ bucket_width widths = omega (arith, key, value) in
    record {
      narrow_key = omega (arith, key, narrow_any widths 2 narrow);
      narrow_value = omega (arith, value, narrow_any widths 3 narrow);
      inside = subst (λ w. (start + size) * w ≤ 64 * length second) (sym both) inside;
      few = few;
      ends = omega (arith, pointer, small);
    }

pub copy_packs : (widths first0 first1 second : List ℕ) (place start count size vw : ℕ) (run : List Bucket) (row : Row) → length run ≡ count → IsRunOf run size row → start_at widths first0 place ≡ start
    → KeepsFront first0 first1 (place * place_width widths) → end_at widths first1 place ≡ start + count → size_at widths first1 place ≡ size
    → (start + count) * bucket_width widths ≤ 64 * length second → vw ≡ value_width widths → run_in second (key_width widths) vw start count ≡ run
    → PacksPairs widths (start + count) first1 second place (Some row)
copy_packs widths first0 first1 second place start count size vw run row long is starts kept ends sized inside value same =
    let stays : start_at widths first1 place ≡ start = start_stays widths first0 first1 (place * place_width widths) place kept (omega arith) ∙ starts in
    let many : count ≡ bucket_count (length (pairs_of row)) = sym long ∙ is.tight ∙ ap bucket_count is.sized in
    let there = run_at_is widths first1 second place start count stays ends ∙ ap (λ v. run_in second (key_width widths) v start count) (sym value) ∙ same in (
      ends ∙ ap (λ s. s + count) (sym stays) ∙ ap (λ n. start_at widths first1 place + n) many,
      record {
        span = record {
          rises = omega (arith, stays, ends);
          counted = omega (arith, ends);
          held = subst (λ e. e * bucket_width widths ≤ 64 * length second) (sym ends) inside;
        };
        run = subst (λ r. SpellsRun r (pairs_of row)) (sym there) is.spells;
        sized = sized ∙ is.sized;
      },
    )

-- ---- the run of a place that spells a row

-- what each bucket's pair has, the taken buckets have
taken_each : (P : ℕ × ℕ → Type 0) (run : List Bucket) → ((place : ℕ) (pair : ℕ × ℕ) → place < length run → bucket_at run place ≡ Some pair → P pair) → All P (taken_of run)
taken_each P [] each = All-nil P
taken_each P (None ∷ run) each = taken_each P run (λ place pair below is. each (suc place) pair (omega arith) is)
taken_each P (Some pair ∷ run) each =
    All-cons P pair (taken_of run) (each zero pair (omega arith) refl) (taken_each P run (λ place other below is. each (suc place) other (omega arith) is))

-- where values have no bits, each is 0
no_value : (b : Bool) (key value : ℕ) (pair : ℕ × ℕ) → cond b None (Some (key, value)) ≡ Some pair → value ≡ 0 → pair.1 ≡ 0
no_value true key value pair is none = absurd cc
no_value false key value pair is none = let same : (key, value) ≡ pair = cc in sym (ap (λ (p : ℕ × ℕ). p.1) same) ∙ none

no_values : (words : List ℕ) (k v start size : ℕ) → v ≡ 0 → All (λ (pair : ℕ × ℕ). pair.1 ≡ 0) (taken_of (run_in words k v start size))
no_values words k v start size none =
    let long = length-run_in words k v start size in
    taken_each (λ (pair : ℕ × ℕ). pair.1 ≡ 0) (run_in words k v start size) (λ place pair below is.
    let at = (start + place) * (k + v) in
    let small : element_of words (at + k) v < 2 ^ v = element_of-lt words (at + k) v in
    let one : 2 ^ v ≡ 1 = ap (λ n. 2 ^ n) none in
    no_value (eqb (element_of words at k) (2 ^ k - 1)) (element_of words at k) (element_of words (at + k) v) pair
    (sym (bucket_of_run words k v start size place (omega (arith, below, long))) ∙ is) (omega (arith, small, one)))

zero_pairs : (pairs : List (ℕ × ℕ)) → All (λ (pair : ℕ × ℕ). pair.1 ≡ 0) pairs → pairs ≡ map set_pair (keys_of pairs)
zero_pairs [] all = refl
zero_pairs ((key, value) ∷ pairs) all =
    let none : value ≡ 0 = all 0 (0, 0) (omega arith) in
    let rest : pairs ≡ map set_pair (keys_of pairs) = zero_pairs pairs (λ k d inside. all (suc k) d (omega arith)) in
    cc

-- a place that spells a row spells its pairs
pub row_pairs : (shape : Shape) (widths : List ℕ) (total : ℕ) (first second : List ℕ) (place : ℕ) (row : Row) → IsWidthCount shape (length widths) → SpellsBucketRow shape widths total first second place row
    → SpellsPairs widths total first second place (pairs_of row)
row_pairs (Shape.Set element) widths total first second place (Row.Set ordinals) three (pairs, is, spelled) =
    let none : value_width widths ≡ 0 = get_or_past widths 3 0 (omega arith) in
    let zeros = no_values second (key_width widths) (value_width widths) (start_at widths first place) (end_at widths first place - start_at widths first place) none in
    let are : pairs ≡ map set_pair ordinals =
    zero_pairs pairs (All-permutation (λ (pair : ℕ × ℕ). pair.1 ≡ 0) (taken_of (run_at widths first second place)) pairs spelled.run.same zeros) ∙ ap (map set_pair) (sym is) in
    subst (λ ps. SpellsPairs widths total first second place ps) are spelled
row_pairs (Shape.Map key value) widths total first second place (Row.Map entries) four (pairs, is, spelled) = subst (λ ps. SpellsPairs widths total first second place ps) (sym is) spelled
row_pairs _ widths total first second place _ counted (pairs, is, spelled) = absurd is

-- its run is that of the row where it has as many buckets as the row takes
pub run_of_row : (widths : List ℕ) (total : ℕ) (first second : List ℕ) (place size : ℕ) (run : List Bucket) (row : Row) → SpellsPairs widths total first second place (pairs_of row)
    → run ≡ run_at widths first second place → size ≡ size_at widths first place → length run ≡ bucket_count size → IsRunOf run size row
run_of_row widths total first second place size run row spelled is sized tight = record {
  spells = subst (λ r. SpellsRun r (pairs_of row)) (sym is) spelled.run;
  sized = sized ∙ spelled.sized;
  tight = tight;
}

pub tight_run : (widths : List ℕ) (total : ℕ) (first second : List ℕ) (place size : ℕ) (run : List Bucket) (row : Row) → SpellsPairs widths total first second place (pairs_of row)
    → run ≡ run_at widths first second place → size ≡ size_at widths first place → end_at widths first place ≡ start_at widths first place + bucket_count (length (pairs_of row)) → IsRunOf run size row
tight_run widths total first second place size run row spelled is sized ends =
    let long = length-run_in second (key_width widths) (value_width widths) (start_at widths first place) (end_at widths first place - start_at widths first place) in
    let many : end_at widths first place - start_at widths first place ≡ bucket_count (length (pairs_of row)) = omega (arith, ends) in
    run_of_row widths total first second place size run row spelled is sized (ap (λ (r : List Bucket). length r) is ∙ long ∙ many ∙ ap bucket_count (sym (sized ∙ spelled.sized)))
