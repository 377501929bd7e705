-- Lemmas on members of lists, and on the taken buckets of a run.
use Rattle.std.proofs.Common.{◌≡◌, ℕ, zero, suc, ◌<◌, ◌⊎◌, inl, inr, List, [], ◌∷◌, length, Some, None, arith, refl, ap, subst, ⊎_elim}
use Rattle.std.specs.List.{Contains}
use Rattle.bucket_codec.specs.Run.{Bucket, bucket_at, taken_of, keys_of}

-- a member of a list with one more in front
pub contains_cons : {X : Type 0} (x y : X) (xs : List X) → Contains xs y → Contains (x ∷ xs) y
contains_cons x y xs (k, below, is) = (suc k, omega arith, is)

pub contains_head : {X : Type 0} (x : X) (xs : List X) → Contains (x ∷ xs) x
contains_head x xs = (zero, omega arith, refl)

pub contains_cases : {X : Type 0} (x y : X) (xs : List X) → Contains (x ∷ xs) y → (x ≡ y) ⊎ Contains xs y
contains_cases x y xs (zero, below, is) = inl is
contains_cases x y xs (suc k, below, is) = inr (k, omega arith, is)

-- what a bucket holds is among what the taken buckets hold
pub taken_has : (run : List Bucket) (place : ℕ) (pair : ℕ × ℕ) → place < length run → bucket_at run place ≡ Some pair → Contains (taken_of run) pair
taken_has [] place pair below is = absurd (omega arith)
taken_has (None ∷ run) zero pair below is = absurd cc
taken_has (Some p ∷ run) zero pair below is = let same : p ≡ pair = cc in subst (λ q. Contains (p ∷ taken_of run) q) same (contains_head p (taken_of run))
taken_has (None ∷ run) (suc place) pair below is = taken_has run place pair (omega arith) is
taken_has (Some p ∷ run) (suc place) pair below is = contains_cons p pair (taken_of run) (taken_has run place pair (omega arith) is)

-- and the other way round
pub taken_from : (run : List Bucket) (pair : ℕ × ℕ) → Contains (taken_of run) pair → (place : ℕ) × (place < length run) × (bucket_at run place ≡ Some pair)
taken_from [] pair (k, below, is) = absurd (omega arith)
taken_from (None ∷ run) pair h = let found = taken_from run pair h in (suc found.0, omega (arith, found.1), found.2)
taken_from (Some p ∷ run) pair h =
    ⊎_elim
    (λ (same : p ≡ pair). (zero, omega arith, ap Some same))
    (λ (later : Contains (taken_of run) pair). let found = taken_from run pair later in (suc found.0, omega (arith, found.1), found.2))
    (contains_cases p pair (taken_of run) h)

-- the key of a pair is among the keys, and a key among them has a pair
pub key_has : (pairs : List (ℕ × ℕ)) (key value : ℕ) → Contains pairs (key, value) → Contains (keys_of pairs) key
key_has [] key value (k, below, is) = absurd (omega arith)
key_has (p ∷ pairs) key value h =
    ⊎_elim
    (λ (same : p ≡ (key, value)). subst (λ q. Contains (p.0 ∷ keys_of pairs) q) (ap (λ q. q.0) same) (contains_head p.0 (keys_of pairs)))
    (λ (later : Contains pairs (key, value)). contains_cons p.0 key (keys_of pairs) (key_has pairs key value later))
    (contains_cases p (key, value) pairs h)

pub key_from : (pairs : List (ℕ × ℕ)) (key : ℕ) → Contains (keys_of pairs) key → (value : ℕ) × Contains pairs (key, value)
key_from [] key (k, below, is) = absurd (omega arith)
key_from ((first, value) ∷ pairs) key h =
    ⊎_elim
    (λ (same : first ≡ key). (value, subst (λ q. Contains ((first, value) ∷ pairs) (q, value)) same (contains_head (first, value) pairs)))
    (λ (later : Contains (keys_of pairs) key). let found = key_from pairs key later in (found.0, contains_cons (first, value) (key, found.0) pairs found.1))
    (contains_cases first key (keys_of pairs) h)
