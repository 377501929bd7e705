-- Trees of one kind are the same where their parts are.
use Rattle.std.proofs.Common.{◌≡◌, ◌↔◌, inl, inr, suc, List, [], ◌∷◌, length, map, Bool, IsTrue, refl, sym, ap, subst, ◌∙◌}
use Rattle.std.specs.Prelude.{All, Any}
use Rattle.row_model.specs.PlainTree.{PlainTree, PlainTrees, PlainPairs, object, list, set, map as map_tree, SameTree, SameTrees, EachAmong, IsAmongTrees, EachPairAmong, IsAmongPairs, trees_of_list, pairs_of_list, list_of_trees, list_of_pairs}
use Rattle.record_trees.specs.declared.tree.Tree
use Rattle.record_trees.specs.declared.tree.Tree.TheFolds.{fold-roll-Tree}
use Rattle.record_trees.specs.declared.tree.Trees.{fold-Trees, fold_out-Trees, Trees}
use Rattle.record_trees.specs.declared.tree.TreePairs.{fold-TreePairs, fold_out-TreePairs, TreePairs}
use Rattle.record_trees.specs.declared.tree.Tree.TheVariants.{rolls-Object, rolls-List, rolls-Set, rolls-Map}
use Rattle.record_trees.specs.declared.tree.Tree.{Tree}
use Rattle.record_trees.specs.Tree.{plain_layer, plain, plain_pair, trees, tree_pairs}
use Rattle.record_trees.proofs.Passing.{IsEach, IsSome}

of_parts : (parts : Trees) → fold-Trees PlainTree PlainPairs PlainTrees plain_layer (λ ps. pairs_of_list ps.items.items) (λ ps. trees_of_list ps.items.items) parts ≡ trees_of_list (map plain (trees parts))
of_parts parts = fold_out-Trees PlainTree PlainPairs PlainTrees plain_layer (λ ps. pairs_of_list ps.items.items) (λ ps. trees_of_list ps.items.items) parts

of_pair_parts : (parts : TreePairs) → fold-TreePairs PlainTree PlainPairs PlainTrees plain_layer (λ ps. pairs_of_list ps.items.items) (λ ps. trees_of_list ps.items.items) parts ≡ pairs_of_list (map plain_pair (tree_pairs parts))
of_pair_parts parts = fold_out-TreePairs PlainTree PlainPairs PlainTrees plain_layer (λ ps. pairs_of_list ps.items.items) (λ ps. trees_of_list ps.items.items) parts

-- the plain tree of each kind of row
pub object_plain : (parts : Trees) → object (trees_of_list (map plain (trees parts))) ≡ plain (Tree.Object parts)
object_plain parts = sym (ap plain (sym (rolls-Object parts)) ∙ fold-roll-Tree PlainTree PlainPairs PlainTrees plain_layer (λ ps. pairs_of_list ps.items.items) (λ ps. trees_of_list ps.items.items) (Tree.Tree-F.Object parts) ∙ ap object (of_parts parts))

pub object_image : (tree : Tree) (parts : Trees) (xs : List Tree) → tree ≡ Tree.Object parts → xs ≡ trees parts → object (trees_of_list (map plain xs)) ≡ plain tree
object_image tree parts xs is all = ap (λ ts. object (trees_of_list (map plain ts))) all ∙ object_plain parts ∙ sym (ap plain is)

pub list_plain : (parts : Trees) → list (trees_of_list (map plain (trees parts))) ≡ plain (Tree.List parts)
list_plain parts = sym (ap plain (sym (rolls-List parts)) ∙ fold-roll-Tree PlainTree PlainPairs PlainTrees plain_layer (λ ps. pairs_of_list ps.items.items) (λ ps. trees_of_list ps.items.items) (Tree.Tree-F.List parts) ∙ ap list (of_parts parts))

pub list_image : (tree : Tree) (parts : Trees) (xs : List Tree) → tree ≡ Tree.List parts → xs ≡ trees parts → list (trees_of_list (map plain xs)) ≡ plain tree
list_image tree parts xs is all = ap (λ ts. list (trees_of_list (map plain ts))) all ∙ list_plain parts ∙ sym (ap plain is)

pub set_plain : (parts : Trees) → set (trees_of_list (map plain (trees parts))) ≡ plain (Tree.Set parts)
set_plain parts = sym (ap plain (sym (rolls-Set parts)) ∙ fold-roll-Tree PlainTree PlainPairs PlainTrees plain_layer (λ ps. pairs_of_list ps.items.items) (λ ps. trees_of_list ps.items.items) (Tree.Tree-F.Set parts) ∙ ap set (of_parts parts))

pub set_image : (tree : Tree) (parts : Trees) (xs : List Tree) → tree ≡ Tree.Set parts → xs ≡ trees parts → set (trees_of_list (map plain xs)) ≡ plain tree
set_image tree parts xs is all = ap (λ ts. set (trees_of_list (map plain ts))) all ∙ set_plain parts ∙ sym (ap plain is)

pub map_plain : (pairs : TreePairs) → map_tree (pairs_of_list (map plain_pair (tree_pairs pairs))) ≡ plain (Tree.Map pairs)
map_plain pairs = sym (ap plain (sym (rolls-Map pairs)) ∙ fold-roll-Tree PlainTree PlainPairs PlainTrees plain_layer (λ ps. pairs_of_list ps.items.items) (λ ps. trees_of_list ps.items.items) (Tree.Tree-F.Map pairs) ∙ ap map_tree (of_pair_parts pairs))

pub map_image : (tree : Tree) (pairs : TreePairs) (xs : List (Tree × Tree)) → tree ≡ Tree.Map pairs → xs ≡ tree_pairs pairs → map_tree (pairs_of_list (map plain_pair xs)) ≡ plain tree
map_image tree pairs xs is all = ap (λ ts. map_tree (pairs_of_list (map plain_pair ts))) all ∙ map_plain pairs ∙ sym (ap plain is)

pub moved : (b : Bool) (l l' r r' : PlainTree) → l ≡ l' → r ≡ r' → IsTrue b ↔ SameTree l r → IsTrue b ↔ SameTree l' r'
moved b l l' r r' left right is = subst (λ x. IsTrue b ↔ SameTree x r') left (subst (λ x. IsTrue b ↔ SameTree l x) right is)

-- the lists are those of their plain forms
of_trees : (ts : List PlainTree) → list_of_trees (trees_of_list ts) ≡ ts
of_trees [] = refl
of_trees (t ∷ ts) = ap (λ us. t ∷ us) (of_trees ts)

pub of_pairs : (ts : List (PlainTree × PlainTree)) → list_of_pairs (pairs_of_list ts) ≡ ts
of_pairs [] = refl
of_pairs (t ∷ ts) = ap (λ us. t ∷ us) (of_pairs ts)

pub objects : (b : Bool) (ts us : List PlainTree) → IsTrue b ↔ SameTrees (trees_of_list ts) us → IsTrue b ↔ SameTree (object (trees_of_list ts)) (object (trees_of_list us))
objects b ts us is = subst (λ vs. IsTrue b ↔ SameTrees (trees_of_list ts) vs) (sym (of_trees us)) is

pub lists : (b : Bool) (ts us : List PlainTree) → IsTrue b ↔ SameTrees (trees_of_list ts) us → IsTrue b ↔ SameTree (list (trees_of_list ts)) (list (trees_of_list us))
lists b ts us is = subst (λ vs. IsTrue b ↔ SameTrees (trees_of_list ts) vs) (sym (of_trees us)) is

pub sets : (ts us : List PlainTree) (b : Bool) → EachAmong (trees_of_list ts) us → IsTrue b ↔ All (IsAmongTrees (trees_of_list ts)) us
    → IsTrue b ↔ SameTree (set (trees_of_list ts)) (set (trees_of_list us))
sets ts us b each all = subst (λ vs. IsTrue b ↔ (EachAmong (trees_of_list ts) vs × All (IsAmongTrees (trees_of_list ts)) vs)) (sym (of_trees us)) (λ t. (each, all.0 t), λ both. all.1 both.1)

pub sets_not : (ts us : List PlainTree) → (EachAmong (trees_of_list ts) us → ⊥) → SameTree (set (trees_of_list ts)) (set (trees_of_list us)) → ⊥
sets_not ts us fails same = fails (subst (λ vs. EachAmong (trees_of_list ts) vs) (of_trees us) same.0)

pub maps : (ts us : List (PlainTree × PlainTree)) (b : Bool) → EachPairAmong (pairs_of_list ts) us → IsTrue b ↔ All (IsAmongPairs (pairs_of_list ts)) us
    → IsTrue b ↔ SameTree (map_tree (pairs_of_list ts)) (map_tree (pairs_of_list us))
maps ts us b each all = subst (λ vs. IsTrue b ↔ (EachPairAmong (pairs_of_list ts) vs × All (IsAmongPairs (pairs_of_list ts)) vs)) (sym (of_pairs us)) (λ t. (each, all.0 t), λ both. all.1 both.1)

pub maps_not : (ts us : List (PlainTree × PlainTree)) → (EachPairAmong (pairs_of_list ts) us → ⊥) → SameTree (map_tree (pairs_of_list ts)) (map_tree (pairs_of_list us)) → ⊥
maps_not ts us fails same = fails (subst (λ vs. EachPairAmong (pairs_of_list ts) vs) (of_pairs us) same.0)

-- the trees of a list, each among others
pub each_is_each : (others : List PlainTree) → IsEach (λ t. Any (SameTree t) others) (λ ts. EachAmong (trees_of_list ts) others)
each_is_each others = record { none = tt; more = λ t ts holds rest. (holds, rest); first = λ t ts both. both.0; rest = λ t ts both. both.1 }

pub among_is_some : (other : PlainTree) → IsSome (λ t. SameTree t other) (λ ts. IsAmongTrees (trees_of_list ts) other)
among_is_some other = record { none = λ n. n; here = λ t ts holds. inl holds; later = λ t ts rest. inr rest; either = λ t ts both. both }

pub each_pair_is_each : (others : List (PlainTree × PlainTree)) → IsEach (λ pair. Any (λ other. SameTree pair.0 other.0 × SameTree pair.1 other.1) others) (λ ts. EachPairAmong (pairs_of_list ts) others)
each_pair_is_each others = record { none = tt; more = λ t ts holds rest. (holds, rest); first = λ t ts both. both.0; rest = λ t ts both. both.1 }

pub among_pairs_is_some : (other : PlainTree × PlainTree) → IsSome (λ pair. SameTree pair.0 other.0 × SameTree pair.1 other.1) (λ ts. IsAmongPairs (pairs_of_list ts) other)
among_pairs_is_some other = record { none = λ n. n; here = λ t ts holds. inl holds; later = λ t ts rest. inr rest; either = λ t ts both. both }

-- lists that are the same one by one are as long
pub as_many : (ts us : List PlainTree) → SameTrees (trees_of_list ts) us → length ts ≡ length us
as_many [] us same = sym (ap length same)
as_many (t ∷ ts) [] same = absurd same
as_many (t ∷ ts) (u ∷ us) same = ap suc (as_many ts us same.1)
