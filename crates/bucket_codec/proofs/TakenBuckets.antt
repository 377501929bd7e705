-- Lemmas on the taken buckets of a run, and on their pairs.
use Rattle.std.proofs.Common.{◌≡◌, ℕ, zero, suc, ◌+◌, ◌-◌, ◌*◌, ◌^◌, ◌<◌, ◌≤◌, List, [], ◌∷◌, ◌++◌, length, Bool, true, false, cond, eqb, All, Some, None, arith, refl, sym, ap, ◌∙◌}
use Rattle.std.proofs.lemmas.List.{append-nil, length-append}
use Rattle.std.proofs.lemmas.List.Elements.{All-nil, All-cons, All-contains, filter_map-append}
use Rattle.std.proofs.lemmas.List.FromFn.{map-range_with_len_more}
use Rattle.std.proofs.Math.Pow.{pow_mono}
use Rattle.bit_array.specs.Element.{element_of}
use Rattle.bit_array.proofs.Elements.{element_of-lt}
use Rattle.bucket_codec.specs.Run.{Bucket, bucket_in, bucket_at, run_in, taken_of, IsPairInRange}
use Rattle.bucket_codec.specs.Taken.{HasBadValue}
use Rattle.bucket_codec.specs.Buckets.{FitsAt}
use Rattle.bucket_codec.proofs.Members.{taken_has}
use Rattle.bucket_codec.proofs.RunBuckets.{bucket_of_run}

-- no more buckets are taken than there are
pub taken_within : (run : List Bucket) → length (taken_of run) ≤ length run
taken_within [] = omega arith
taken_within (None ∷ run) = let later = taken_within run in omega (arith, later)
taken_within (Some p ∷ run) = let later = taken_within run in omega (arith, later)

-- fewer are where one is empty, and the other way round
pub taken_fewer : (run : List Bucket) (place : ℕ) → place < length run → bucket_at run place ≡ None → length (taken_of run) < length run
taken_fewer [] place below is = absurd (omega arith)
taken_fewer (None ∷ run) place below is = let later = taken_within run in omega (arith, later)
taken_fewer (Some p ∷ run) zero below is = absurd cc
taken_fewer (Some p ∷ run) (suc place) below is = let later = taken_fewer run place (omega arith) is in omega (arith, later)

pub empty_place : (run : List Bucket) → length (taken_of run) < length run → (place : ℕ) × (place < length run) × (bucket_at run place ≡ None)
empty_place [] few = absurd (omega arith)
empty_place (None ∷ run) few = (zero, omega arith, refl)
empty_place (Some p ∷ run) few = let later = empty_place run (omega arith) in (suc later.0, omega (arith, later.1), later.2)

-- the pair of a taken bucket is in range where all are
pub pair_fits : (run : List Bucket) (place key value : ℕ) → All IsPairInRange (taken_of run) → place < length run → Some (key, value) ≡ bucket_at run place → (key < 2 ^ 32) × (value < 2 ^ 32)
pair_fits run place key value ranges below is = All-contains IsPairInRange (taken_of run) (key, value) ranges (taken_has run place (key, value) below (sym is))

-- the range of the pairs by the range of each bucket's
pub ranges_of : (run : List Bucket) → ((place : ℕ) → place < length run → FitsAt run place) → All IsPairInRange (taken_of run)
ranges_of [] each = All-nil IsPairInRange
ranges_of (None ∷ run) each = ranges_of run (λ place below. each (suc place) (omega arith))
ranges_of (Some (key, value) ∷ run) each =
    All-cons IsPairInRange (key, value) (taken_of run) (each zero (omega arith) key value refl) (ranges_of run (λ place below. each (suc place) (omega arith)))

pub bad_inside : (run : List Bucket) (place key value : ℕ) → place < length run → Some (key, value) ≡ bucket_at run place → ((key < 2 ^ 32) × (value < 2 ^ 32) → ⊥) → HasBadValue run
bad_inside run place key value below is bad = λ all. bad (pair_fits run place key value all below is)

-- the taken buckets of the first so many, with one more
taken_append : (a b : List Bucket) → taken_of (a ++ b) ≡ taken_of a ++ taken_of b
taken_append a b = filter_map-append (λ bucket. bucket) a b

pub taken_more : (words : List ℕ) (k v start size place : ℕ) → place < size
    → taken_of (run_in words k v start (place + 1)) ≡ taken_of (run_in words k v start place) ++ taken_of (bucket_at (run_in words k v start size) place ∷ [])
taken_more words k v start size place below =
    ap taken_of (map-range_with_len_more (bucket_in words k v) start place (start + place) refl)
    ∙ taken_append (run_in words k v start place) (bucket_in words k v (start + place) ∷ [])
    ∙ ap (λ b. taken_of (run_in words k v start place) ++ taken_of (b ∷ [])) (sym (bucket_of_run words k v start size place below))

pub counted_more : (words : List ℕ) (k v start size place count here : ℕ) → place < size → count ≡ length (taken_of (run_in words k v start place))
    → here ≡ length (taken_of (bucket_at (run_in words k v start size) place ∷ [])) → count + here ≡ length (taken_of (run_in words k v start (place + 1)))
counted_more words k v start size place count here below so_far is =
    let all =
    ap length (taken_more words k v start size place below)
    ∙ length-append (taken_of (run_in words k v start place)) (taken_of (bucket_at (run_in words k v start size) place ∷ [])) in
    omega (arith, so_far, is, all)

-- of few bits all are ordinals
some_of_cond : (b : Bool) (x y : ℕ × ℕ) → cond b None (Some x) ≡ Some y → x ≡ y
some_of_cond true x y e = absurd cc
some_of_cond false x y e = cc

parts_same : (x y : ℕ × ℕ) → x ≡ y → (x.0 ≡ y.0) × (x.1 ≡ y.1)
parts_same x y e = (ap (λ (p : ℕ × ℕ). p.0) e, ap (λ (p : ℕ × ℕ). p.1) e)

pub fits_narrow : (words : List ℕ) (k v start size place : ℕ) → k ≤ 32 → v ≤ 32 → place < size → FitsAt (run_in words k v start size) place
fits_narrow words k v start size place narrow narrow' below = λ (key value : ℕ) (is : bucket_at (run_in words k v start size) place ≡ Some (key, value)).
    let at = (start + place) * (k + v) in
    let pair : ℕ × ℕ = (element_of words at k, element_of words (at + k) v) in
    let found = some_of_cond (eqb (element_of words at k) (2 ^ k - 1)) pair (key, value) (sym (bucket_of_run words k v start size place below) ∙ is) in
    let same = parts_same pair (key, value) found in
    let up : 2 ^ k ≤ 2 ^ 32 = pow_mono narrow in
    let up' : 2 ^ v ≤ 2 ^ 32 = pow_mono narrow' in
    (omega (arith, same.0, up, element_of-lt words at k), omega (arith, same.1, up', element_of-lt words (at + k) v))

-- the pairs so far, and that of one more bucket
pub pairs_more : (words : List ℕ) (k v start size place : ℕ) (pairs : List (ℕ × ℕ)) (b : Bucket) → place < size → pairs ≡ taken_of (run_in words k v start place)
    → b ≡ bucket_at (run_in words k v start size) place → pairs ++ taken_of (b ∷ []) ≡ taken_of (run_in words k v start (place + 1))
pairs_more words k v start size place pairs b below so_far is =
    ap (λ l. l ++ taken_of (b ∷ [])) so_far
    ∙ ap (λ c. taken_of (run_in words k v start place) ++ taken_of (c ∷ [])) is
    ∙ sym (taken_more words k v start size place below)

pub pairs_still : (words : List ℕ) (k v start size place : ℕ) (pairs : List (ℕ × ℕ)) → place < size → pairs ≡ taken_of (run_in words k v start place) → None ≡ bucket_at (run_in words k v start size) place
    → pairs ≡ taken_of (run_in words k v start (place + 1))
pairs_still words k v start size place pairs below so_far is = sym (append-nil pairs) ∙ pairs_more words k v start size place pairs None below so_far is
