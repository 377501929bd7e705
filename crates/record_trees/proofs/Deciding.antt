-- Two trees are the same record or they are not, and among the keys of a map two are or none. A definition by cases may ask which.
use Rattle.std.proofs.Common.{◌≡◌, ◌⊎◌, inl, inr, zero, suc, List, [], ◌∷◌, Bool, true, false, refl, ap, arith}
use Rattle.std.specs.Bool.{Decides}
use Rattle.std.specs.Cmp.{booleans_Decides}
use Rattle.std.specs.Ordering.{int_eq}
use Rattle.std.specs.Prelude.{All, AllPairs, ◌==◌}
use Rattle.std.specs.Str.{bytes_eq}
use Rattle.std.proofs.lemmas.Bool.Decides.{Decides-eqb, Decides-int_eq, not_from_Decides}
use Rattle.std.proofs.lemmas.List.Kept.{AllPairs-cons}
use Rattle.std.proofs.lemmas.Slice.Eq.{bytes_eq-Decides}
use Rattle.row_model.specs.declared.row.Value.{Value}
use Rattle.row_model.specs.PlainTree.{PlainTree, PlainTrees, PlainPairs, leaf, object, list, set, map, no_trees, tree_then, no_pairs, pair_then, SameTree, SameTrees, EachAmong, IsAmongTrees, EachPairAmong, IsAmongPairs, list_of_trees, list_of_pairs}
use Rattle.row_model.specs.Row.{stored_value}
use Rattle.record_trees.proofs.Passing.{IsEach, IsSome, all_is_each, any_is_some}

-- as a test says
by_test : {P Q : Type 0} (test : Bool) → Decides test P → (P → Q) → (Q → P) → Dec Q
by_test true decides to from = yes (to (decides.0 refl))
by_test false decides to from = no (λ q. not_from_Decides false decides refl (from q))

both_or_not : {P Q : Type 0} → Dec P → Dec Q → Dec (P × Q)
both_or_not (yes p) (yes q) = yes (p, q)
both_or_not (yes p) (no q) = no (λ both. q both.1)
both_or_not (no p) d = no (λ both. p both.0)

some_or_none : {P Q : Type 0} → Dec P → Dec Q → Dec (P ⊎ Q)
some_or_none (yes p) d = yes (inl p)
some_or_none (no p) (yes q) = yes (inr q)
some_or_none (no p) (no q) = no (λ either. elim either [ inl x ↦ p x | inr x ↦ q x ])

none_or_not : {P : Type 0} → Dec P → Dec (¬ P)
none_or_not (yes p) = no (λ fails. fails p)
none_or_not (no p) = yes p

-- what holds of each item, or not
each_more : {Y : Type 0} {P : Y → Type 0} {E : List Y → Type 0} → IsEach P E → (y : Y) (ys : List Y) → Dec (P y) → Dec (E ys) → Dec (E (y ∷ ys))
each_more is y ys (yes here) (yes rest) = yes (is.more y ys here rest)
each_more is y ys (yes here) (no fails) = no (λ all. fails (is.rest y ys all))
each_more is y ys (no fails) d = no (λ all. fails (is.first y ys all))

each_or_not : {Y : Type 0} {P : Y → Type 0} {E : List Y → Type 0} → IsEach P E → ((y : Y) → Dec (P y)) → (ys : List Y) → Dec (E ys)
each_or_not is decide [] = yes is.none
each_or_not is decide (y ∷ ys) = each_more is y ys (decide y) (each_or_not is decide ys)

-- what holds of some item, or of none
some_more : {Y : Type 0} {P : Y → Type 0} {S : List Y → Type 0} → IsSome P S → (y : Y) (ys : List Y) → Dec (P y) → Dec (S ys) → Dec (S (y ∷ ys))
some_more is y ys (yes here) d = yes (is.here y ys here)
some_more is y ys (no here) (yes rest) = yes (is.later y ys rest)
some_more is y ys (no here) (no rest) = no (λ some. elim (is.either y ys some) [ inl x ↦ here x | inr x ↦ rest x ])

some_or_not : {Y : Type 0} {P : Y → Type 0} {S : List Y → Type 0} → IsSome P S → ((y : Y) → Dec (P y)) → (ys : List Y) → Dec (S ys)
some_or_not is decide [] = no is.none
some_or_not is decide (y ∷ ys) = some_more is y ys (decide y) (some_or_not is decide ys)

-- what holds of each item and each later one, or not
pairs_more : {Y : Type 0} (R : Y → Y → Type 0) (y : Y) (ys : List Y) → Dec (All (R y) ys) → Dec (AllPairs R ys) → Dec (AllPairs R (y ∷ ys))
pairs_more R y ys (yes here) (yes rest) = yes (AllPairs-cons R y ys here rest)
pairs_more R y ys (yes here) (no fails) = no (λ all. fails (λ i j d below inside. all (suc i) (suc j) d (omega arith) (omega arith)))
pairs_more R y ys (no fails) d = no (λ all. fails (λ k d inside. all zero (suc k) d (omega arith) (omega arith)))

pairs_or_not : {Y : Type 0} (R : Y → Y → Type 0) → ((x y : Y) → Dec (R x y)) → (ys : List Y) → Dec (AllPairs R ys)
pairs_or_not R decide [] = yes (λ i j d below inside. absurd (omega arith))
pairs_or_not R decide (y ∷ ys) = pairs_more R y ys (each_or_not (all_is_each (R y)) (decide y) ys) (pairs_or_not R decide ys)

values_or_not : (value other : Value) → Dec (value ≡ other)
values_or_not Value.Null Value.Null = yes refl
values_or_not (Value.Int n) (Value.Int m) = by_test (int_eq n m) (Decides-int_eq n m) (ap Value.Int) (λ e. cc)
values_or_not (Value.Long n) (Value.Long m) = by_test (int_eq n m) (Decides-int_eq n m) (ap Value.Long) (λ e. cc)
values_or_not (Value.Bool a) (Value.Bool b) = by_test _ (booleans_Decides a b) (ap Value.Bool) (λ e. cc)
values_or_not (Value.Text xs) (Value.Text ys) = by_test (bytes_eq xs ys) (bytes_eq-Decides xs ys) (ap Value.Text) (λ e. cc)
values_or_not (Value.Bytes xs) (Value.Bytes ys) = by_test (bytes_eq xs ys) (bytes_eq-Decides xs ys) (ap Value.Bytes) (λ e. cc)
values_or_not (Value.Ref n) (Value.Ref m) = by_test (n == m) (Decides-eqb n m) (ap Value.Ref) (λ e. cc)
values_or_not value other = no (λ e. cc)

mutual
  same_or_not : (tree other : PlainTree) → Dec (SameTree tree other)
  same_or_not (leaf value) (leaf other) = values_or_not (stored_value value) (stored_value other)
  same_or_not (object trees) (object others) = same_trees_or_not trees (list_of_trees others)
  same_or_not (list trees) (list others) = same_trees_or_not trees (list_of_trees others)
  same_or_not (set trees) (set others) =
      both_or_not (each_among_or_not trees (list_of_trees others)) (each_or_not (all_is_each (IsAmongTrees trees)) (among_or_not trees) (list_of_trees others))
  same_or_not (map pairs) (map others) =
      both_or_not (each_pair_among_or_not pairs (list_of_pairs others)) (each_or_not (all_is_each (IsAmongPairs pairs)) (pair_among_or_not pairs) (list_of_pairs others))
  same_or_not tree other = no (λ same. same)

  same_trees_or_not : (trees : PlainTrees) (others : List PlainTree) → Dec (SameTrees trees others)
  same_trees_or_not no_trees [] = yes refl
  same_trees_or_not no_trees (other ∷ others) = no (λ e. cc)
  same_trees_or_not (tree_then tree trees) [] = no (λ same. same)
  same_trees_or_not (tree_then tree trees) (other ∷ others) = both_or_not (same_or_not tree other) (same_trees_or_not trees others)

  each_among_or_not : (trees : PlainTrees) (others : List PlainTree) → Dec (EachAmong trees others)
  each_among_or_not no_trees others = yes tt
  each_among_or_not (tree_then tree trees) others = both_or_not (some_or_not (any_is_some (SameTree tree)) (same_or_not tree) others) (each_among_or_not trees others)

  among_or_not : (trees : PlainTrees) (other : PlainTree) → Dec (IsAmongTrees trees other)
  among_or_not no_trees other = no (λ among. among)
  among_or_not (tree_then tree trees) other = some_or_none (same_or_not tree other) (among_or_not trees other)

  each_pair_among_or_not : (pairs : PlainPairs) (others : List (PlainTree × PlainTree)) → Dec (EachPairAmong pairs others)
  each_pair_among_or_not no_pairs others = yes tt
  each_pair_among_or_not (pair_then key value pairs) others =
      both_or_not (some_or_not (any_is_some (λ other. SameTree key other.0 × SameTree value other.1)) (λ other. both_or_not (same_or_not key other.0) (same_or_not value other.1)) others) (each_pair_among_or_not pairs others)

  pair_among_or_not : (pairs : PlainPairs) (other : PlainTree × PlainTree) → Dec (IsAmongPairs pairs other)
  pair_among_or_not no_pairs other = no (λ among. among)
  pair_among_or_not (pair_then key value pairs) other = some_or_none (both_or_not (same_or_not key other.0) (same_or_not value other.1)) (pair_among_or_not pairs other)

-- no two keys are the same record, or two are
pub keys_apart_or_not : (pairs : PlainPairs) → Dec (AllPairs (λ earlier later. ¬ SameTree earlier.0 later.0) (list_of_pairs pairs))
keys_apart_or_not pairs = pairs_or_not (λ earlier later. ¬ SameTree earlier.0 later.0) (λ earlier later. none_or_not (same_or_not earlier.0 later.0)) (list_of_pairs pairs)
