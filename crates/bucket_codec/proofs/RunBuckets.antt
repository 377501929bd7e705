-- Lemmas on the buckets of a run in words.
use Rattle.std.proofs.Common.{◌≡◌, ℕ, ◌+◌, ◌-◌, ◌*◌, ◌^◌, ◌<◌, ◌≤◌, List, length, Bool, true, false, cond, Some, None, arith, refl, sym, ap, ◌∙◌}
use Rattle.std.proofs.lemmas.List.FromFn.{get_or-map-range_with_len, length-map-range_with_len}
use Rattle.std.proofs.Math.Nat.{mul-le-mul_right}
use Rattle.std.proofs.lemmas.Bool.{eq-eqb, ne_eqb}
use Rattle.bit_array.specs.Element.{element_of}
use Rattle.bucket_codec.specs.Run.{bucket_in, run_in, bucket_at, HoldsRun}

-- a run has so many buckets
pub length-run_in : (words : List ℕ) (k v start size : ℕ) → length (run_in words k v start size) ≡ size
length-run_in words k v start size = length-map-range_with_len (bucket_in words k v) start size

-- the bucket at a place of it stands so many buckets behind its start
pub bucket_of_run : (words : List ℕ) (k v start size place : ℕ) → place < size → bucket_at (run_in words k v start size) place ≡ bucket_in words k v (start + place)
bucket_of_run words k v start size place h = get_or-map-range_with_len (bucket_in words k v) start size place (start + place) None h refl

-- a bucket of it lies within the words
pub bucket_within : (words : List ℕ) (k v start size place : ℕ) → HoldsRun words k v start size → place < size
    → (start + place) * (k + v) + (k + v) ≤ 64 * length words
bucket_within words k v start size place h below =
    let up : (start + place + 1) * (k + v) ≤ (start + size) * (k + v) = mul-le-mul_right (k + v) (omega arith) in
    omega (arith, up, h.inside)

-- the key alone does too
pub key_within : (words : List ℕ) (k v both start size place : ℕ) → HoldsRun words k v start size → place < size → both ≡ k + v
    → (start + place) * both + k ≤ 64 * length words
key_within words k v both start size place h below is =
    let whole = bucket_within words k v start size place h below in
    let same : (start + place) * both ≡ (start + place) * (k + v) = ap (λ w. (start + place) * w) is in
    omega (arith, whole, same)

pub if_true : {A : Type 0} (b : Bool) (x y : A) → b ≡ true → cond b x y ≡ x
if_true true x y e = refl
if_true false x y e = absurd cc

pub if_false : {A : Type 0} (b : Bool) (x y : A) → b ≡ false → cond b x y ≡ y
if_false true x y e = absurd cc
if_false false x y e = refl

-- it is empty where the key is all ones
pub bucket_empty : (words : List ℕ) (k v both start size place : ℕ) → place < size → both ≡ k + v → element_of words ((start + place) * both) k ≡ 2 ^ k - 1
    → None ≡ bucket_at (run_in words k v start size) place
bucket_empty words k v both start size place below is ones =
    let at : element_of words ((start + place) * (k + v)) k ≡ 2 ^ k - 1 = ap (λ w. element_of words ((start + place) * w) k) (sym is) ∙ ones in
    sym (bucket_of_run words k v start size place below ∙ if_true _ _ _ (eq-eqb _ _ at))

-- and else holds the key and the value
pub bucket_taken : (words : List ℕ) (k v both start size place key value : ℕ) → place < size → both ≡ k + v → key ≡ element_of words ((start + place) * both) k
    → (key ≡ 2 ^ k - 1 → ⊥) → value ≡ element_of words ((start + place) * both + k) v → Some (key, value) ≡ bucket_at (run_in words k v start size) place
bucket_taken words k v both start size place key value below is key_is other value_is =
    let at : key ≡ element_of words ((start + place) * (k + v)) k = key_is ∙ ap (λ w. element_of words ((start + place) * w) k) is in
    let behind : value ≡ element_of words ((start + place) * (k + v) + k) v = value_is ∙ ap (λ w. element_of words ((start + place) * w + k) v) is in
    let not_ones : element_of words ((start + place) * (k + v)) k ≡ 2 ^ k - 1 → ⊥ = λ e. other (at ∙ e) in
    let both_are : Some (key, value) ≡ Some (element_of words ((start + place) * (k + v)) k, element_of words ((start + place) * (k + v) + k) v) = cc in
    both_are ∙ sym (bucket_of_run words k v start size place below ∙ if_false _ _ _ (ne_eqb _ _ not_ones))
