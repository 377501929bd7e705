-- Lemmas on the run of a row as its pairs are put in one by one.
use Rattle.std.proofs.Common.{◌≡◌, ℕ, ◌+◌, ◌<◌, List, [], ◌∷◌, ◌++◌, ◌*◌, length, map, take, get_or, All, arith, sym, ap, subst, ◌∙◌}
use Rattle.std.proofs.lemmas.List.{get_or-map, length-map, length-take, map-append, take_more}
use Rattle.std.proofs.lemmas.List.Elements.{All-get_or, All-push}
use Rattle.std.proofs.lemmas.List.Sorted.{length_permutation}
use Rattle.bucket_codec.specs.Run.{Bucket, run_in, taken_of, IsPairInRange, IsZeroIfEmpty}
use Rattle.bucket_codec.specs.Filled.{KeepsFront, KeepsBack, IsFilled, FillsRun}
use Rattle.bucket_codec.specs.Inserted.{with_pair}
use Rattle.bucket_codec.specs.Packed.{set_pair}
use Rattle.bucket_codec.proofs.Writing.{kept_both}
use Rattle.bucket_codec.proofs.Behind.{back_both}
use Rattle.bucket_codec.proofs.Inserts.{inserted_more}

-- there is room where the pairs put in are fewer than the buckets
pub has_room : (run : List Bucket) (pairs : List (ℕ × ℕ)) (size : ℕ) → IsFilled run pairs → length pairs < size → length (taken_of run) < size
has_room run pairs size filled few = omega (arith, length_permutation (taken_of run) pairs filled.same)

-- one more pair
pub fill_more : (old mid new : List ℕ) (k v start size : ℕ) (before after : List (ℕ × ℕ)) (key value : ℕ) → after ≡ before ++ (key, value) ∷ [] → IsPairInRange (key, value)
    → FillsRun old mid k v start size before → ((pairs : List (ℕ × ℕ)) → IsFilled (run_in mid k v start size) pairs → IsFilled (run_in new k v start size) (pairs ++ (key, value) ∷ []))
    → run_in new k v start size ≡ with_pair (run_in mid k v start size) (key, value)
    → ((index : ℕ) → IsZeroIfEmpty mid k v index → IsZeroIfEmpty new k v index) → KeepsFront mid new (start * (k + v)) → KeepsBack mid new ((start + size) * (k + v))
    → FillsRun old new k v start size after
fill_more old mid new k v start size before after key value is fits done filled laid zeros front back = record {
  filled = subst (λ l. IsFilled (run_in new k v start size) l) (sym is) (filled before done.filled);
  laid = inserted_more size before after (key, value) (run_in mid k v start size) (run_in new k v start size) is done.laid laid;
  ranges = subst (λ l. All IsPairInRange l) (sym is) (All-push IsPairInRange before (key, value) done.ranges fits);
  zeros = λ index above below. zeros index (done.zeros index above below);
  front = kept_both old mid new (start * (k + v)) (start * (k + v)) (start * (k + v)) done.front front (omega arith) (omega arith);
  back = back_both old mid new ((start + size) * (k + v)) ((start + size) * (k + v)) ((start + size) * (k + v)) done.back back (omega arith) (omega arith);
}

-- the elements of a set as pairs
pub elements_more : (elements : List ℕ) (index : ℕ) → index < length elements
    → map set_pair (take (index + 1) elements) ≡ map set_pair (take index elements) ++ (get_or elements index 0, 0) ∷ []
elements_more elements index below =
    ap (λ l. map set_pair l) (take_more elements index 0 below) ∙ map-append set_pair (take index elements) (get_or elements index 0 ∷ [])

pub element_at : (elements : List ℕ) (index bound : ℕ) → All (λ (pair : ℕ × ℕ). pair.0 < bound) (map set_pair elements) → index < length elements → get_or elements index 0 < bound
element_at elements index bound all below =
    let long = length-map elements set_pair in
    let here : get_or (map set_pair elements) index (0, 0) ≡ (get_or elements index 0, 0) = get_or-map set_pair elements index 0 (0, 0) below in
    let small : (get_or (map set_pair elements) index (0, 0)).0 < bound = All-get_or (λ (pair : ℕ × ℕ). pair.0 < bound) (map set_pair elements) index (0, 0) (omega arith) all in
    omega (arith, small, ap (λ (p : ℕ × ℕ). p.0) here)

-- fewer than all elements have gone in
pub elements_few : (elements : List ℕ) (index : ℕ) → index < length elements → length (map set_pair (take index elements)) ≡ index
elements_few elements index below = length-map (take index elements) set_pair ∙ (let long = length-take index elements in omega arith)

pub pairs_few : (pairs : List (ℕ × ℕ)) (index : ℕ) → index < length pairs → length (take index pairs) ≡ index
pairs_few pairs index below = let long = length-take index pairs in omega arith
