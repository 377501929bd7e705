-- A walk over the pairs of a map that ends at the first key that a later one repeats.
use Rattle.std.proofs.Common.{◌≡◌, ◌↔◌, ℕ, zero, suc, ◌+◌, ◌<◌, ◌≤◌, List, ◌∷◌, length, map, drop, IsTrue, true, false, sym, subst, arith}
use Rattle.std.specs.Prelude.{slice_index_or, All, AllPairs, Any}
use Rattle.std.proofs.lemmas.List.{drop_all, get_or_default}
use Rattle.std.proofs.lemmas.List.Kept.{AllPairs-cons}
use Rattle.row_model.specs.PlainTree.{PlainTree, SameTree, pairs_of_list}
use Rattle.record_trees.specs.FitsTree.{AreKeysApart}
use Rattle.record_trees.proofs.Arms.{of_pairs}
use Rattle.record_trees.proofs.Passing.{left_at, yes, no}

-- two pairs whose keys are other records
abbrev AreApart : PlainTree × PlainTree → PlainTree × PlainTree → Type 0
AreApart earlier later = ¬ SameTree earlier.0 later.0

-- the pairs whose keys are apart, as a list
listed : (pairs : List (PlainTree × PlainTree)) → AreKeysApart (pairs_of_list pairs) ↔ AllPairs AreApart pairs
listed pairs = (subst (AllPairs AreApart) (of_pairs pairs), subst (AllPairs AreApart) (sym (of_pairs pairs)))

none_same : (first : PlainTree × PlainTree) (pairs : List (PlainTree × PlainTree)) → (Any (λ pair. SameTree first.0 pair.0) pairs → ⊥) → All (AreApart first) pairs
none_same first pairs none k d inside same = none (k, slice_index_or pairs k d, inside, get_or_default pairs k (slice_index_or pairs k d) d inside, same)

some_same : (first : PlainTree × PlainTree) (pairs : List (PlainTree × PlainTree)) → Any (λ pair. SameTree first.0 pair.0) pairs → All (AreApart first) pairs → ⊥
some_same first pairs (k, pair, inside, at, same) apart = apart k pair inside (subst (λ (later : PlainTree × PlainTree). SameTree first.0 later.0) (sym at) same)

first_apart : (first : PlainTree × PlainTree) (pairs : List (PlainTree × PlainTree)) → AllPairs AreApart (first ∷ pairs) → All (AreApart first) pairs
first_apart first pairs all k d inside = all zero (suc k) d (omega arith) (omega arith)

others_apart : (first : PlainTree × PlainTree) (pairs : List (PlainTree × PlainTree)) → AllPairs AreApart (first ∷ pairs) → AllPairs AreApart pairs
others_apart first pairs all i j d below inside = all (suc i) (suc j) d (omega arith) (omega arith)

module _ {X : Type 0} (f : X → PlainTree × PlainTree) (xs : List X) (i : ℕ) where
  -- a key that is not repeated
  pub key_passed : (x : X) (rest : List X) → i < length xs → x ≡ slice_index_or xs i x → rest ≡ drop (i + 1) xs → AreKeysApart (pairs_of_list (map f xs)) ↔ AreKeysApart (pairs_of_list (map f (drop i xs)))
      → (Any (λ pair. SameTree (f x).0 pair.0) (map f rest) → ⊥) → AreKeysApart (pairs_of_list (map f xs)) ↔ AreKeysApart (pairs_of_list (map f (drop (i + 1) xs)))
  key_passed x rest inside at is left none =
      let e = left_at f xs i x inside at in
      let ys = map f (drop (i + 1) xs) in
      let apart = none_same (f x) ys (subst (λ (vs : List X). Any (λ pair. SameTree (f x).0 pair.0) (map f vs) → ⊥) is none) in (
        λ whole. (listed ys).1 (others_apart (f x) ys (subst (AllPairs AreApart) e ((listed (map f (drop i xs))).0 (left.0 whole)))),
        λ later. left.1 ((listed (map f (drop i xs))).1 (subst (AllPairs AreApart) (sym e) (AllPairs-cons AreApart (f x) ys apart ((listed ys).0 later)))),
      )

  -- a key that a later one repeats
  pub key_repeated : (x : X) (rest : List X) → i < length xs → x ≡ slice_index_or xs i x → rest ≡ drop (i + 1) xs → AreKeysApart (pairs_of_list (map f xs)) ↔ AreKeysApart (pairs_of_list (map f (drop i xs)))
      → Any (λ pair. SameTree (f x).0 pair.0) (map f rest) → IsTrue false ↔ AreKeysApart (pairs_of_list (map f xs))
  key_repeated x rest inside at is left some =
      let e = left_at f xs i x inside at in
      let ys = map f (drop (i + 1) xs) in
      no (λ whole. some_same (f x) ys (subst (λ (vs : List X). Any (λ pair. SameTree (f x).0 pair.0) (map f vs)) is some) (first_apart (f x) ys (subst (AllPairs AreApart) e ((listed (map f (drop i xs))).0 (left.0 whole)))))

  -- no key is left
  pub keys_passed : length xs ≤ i → AreKeysApart (pairs_of_list (map f xs)) ↔ AreKeysApart (pairs_of_list (map f (drop i xs))) → IsTrue true ↔ AreKeysApart (pairs_of_list (map f xs))
  keys_passed past left = yes (left.1 (subst (λ (vs : List X). AreKeysApart (pairs_of_list (map f vs))) (sym (drop_all i xs past)) (λ k j d below inside. absurd (omega arith))))
