-- A tree is the same record as itself.
use Rattle.std.proofs.Common.{refl, List, ◌∷◌, inl, inr}
use Rattle.std.specs.Prelude.{All}
use Rattle.std.proofs.lemmas.List.Elements.{All-nil, All-cons, All-weaker}
use Rattle.row_model.specs.PlainTree.{PlainTree, PlainTrees, PlainPairs, leaf, object, list, set, map, no_trees, tree_then, no_pairs, pair_then, SameTree, SameTrees, EachAmong, IsAmongTrees, EachPairAmong, IsAmongPairs, list_of_trees, list_of_pairs}
use Rattle.record_trees.proofs.Passing.{any_is_some}

-- what is among others is among more
each_more : (trees : PlainTrees) (other : PlainTree) (others : List PlainTree) → EachAmong trees others → EachAmong trees (other ∷ others)
each_more no_trees other others each = tt
each_more (tree_then tree trees) other others each = ((any_is_some (SameTree tree)).later other others each.0, each_more trees other others each.1)

pairs_more : (pairs : PlainPairs) (other : PlainTree × PlainTree) (others : List (PlainTree × PlainTree)) → EachPairAmong pairs others → EachPairAmong pairs (other ∷ others)
pairs_more no_pairs other others each = tt
pairs_more (pair_then key value pairs) other others each =
    ((any_is_some (λ (pair : PlainTree × PlainTree). SameTree key pair.0 × SameTree value pair.1)).later other others each.0, pairs_more pairs other others each.1)

mutual
  pub same_itself : (tree : PlainTree) → SameTree tree tree
  same_itself (leaf value) = refl
  same_itself (object trees) = all_same trees
  same_itself (list trees) = all_same trees
  same_itself (set trees) = (each_among trees, all_among trees)
  same_itself (map pairs) = (each_pair_among pairs, all_pairs_among pairs)

  all_same : (trees : PlainTrees) → SameTrees trees (list_of_trees trees)
  all_same no_trees = refl
  all_same (tree_then tree trees) = (same_itself tree, all_same trees)

  each_among : (trees : PlainTrees) → EachAmong trees (list_of_trees trees)
  each_among no_trees = tt
  each_among (tree_then tree trees) = ((any_is_some (SameTree tree)).here tree (list_of_trees trees) (same_itself tree), each_more trees tree (list_of_trees trees) (each_among trees))

  all_among : (trees : PlainTrees) → All (IsAmongTrees trees) (list_of_trees trees)
  all_among no_trees = All-nil (IsAmongTrees no_trees)
  all_among (tree_then tree trees) =
      All-cons (IsAmongTrees (tree_then tree trees)) tree (list_of_trees trees) (inl (same_itself tree))
      (All-weaker (IsAmongTrees trees) (IsAmongTrees (tree_then tree trees)) (λ other among. inr among) (list_of_trees trees) (all_among trees))

  each_pair_among : (pairs : PlainPairs) → EachPairAmong pairs (list_of_pairs pairs)
  each_pair_among no_pairs = tt
  each_pair_among (pair_then key value pairs) = (
    (any_is_some (λ (pair : PlainTree × PlainTree). SameTree key pair.0 × SameTree value pair.1)).here (key, value) (list_of_pairs pairs) (same_itself key, same_itself value),
    pairs_more pairs (key, value) (list_of_pairs pairs) (each_pair_among pairs),
  )

  all_pairs_among : (pairs : PlainPairs) → All (IsAmongPairs pairs) (list_of_pairs pairs)
  all_pairs_among no_pairs = All-nil (IsAmongPairs no_pairs)
  all_pairs_among (pair_then key value pairs) =
      All-cons (IsAmongPairs (pair_then key value pairs)) (key, value) (list_of_pairs pairs) (inl (same_itself key, same_itself value))
      (All-weaker (IsAmongPairs pairs) (IsAmongPairs (pair_then key value pairs)) (λ other among. inr among) (list_of_pairs pairs) (all_pairs_among pairs))
