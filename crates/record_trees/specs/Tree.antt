-- Trees of the program as plain trees.
use Rattle.std.specs.Prelude.{List, map}
use Rattle.row_model.specs.declared.row.Value.{Value}
use Rattle.record_trees.specs.declared.tree.Tree.{Tree}
use Rattle.record_trees.specs.declared.tree.Tree.TheOpen.{Tree-F}
use Rattle.record_trees.specs.declared.tree.Tree.TheFolds.{fold-Tree}
use Rattle.record_trees.specs.declared.tree.Trees.{Trees}
use Rattle.record_trees.specs.declared.tree.TreePairs.{TreePairs}
use Rattle.row_model.specs.PlainTree.{PlainTree, PlainTrees, PlainPairs, trees_of_list, pairs_of_list}

-- the trees of a list, in their order
abbrev pub trees : Trees → List Tree
trees ts = ts.items.items

-- the pairs of a list, in their order
abbrev pub tree_pairs : TreePairs → List (Tree × Tree)
tree_pairs ts = ts.items.items

-- one layer of a tree, given its parts as plain trees
abbrev pub plain_layer : Tree-F PlainTree PlainPairs PlainTrees → PlainTree
plain_layer Tree-F.Null = PlainTree.leaf Value.Null
plain_layer (Tree-F.Int number) = PlainTree.leaf (Value.Int number)
plain_layer (Tree-F.Long number) = PlainTree.leaf (Value.Long number)
plain_layer (Tree-F.Bool flag) = PlainTree.leaf (Value.Bool flag)
plain_layer (Tree-F.Text units) = PlainTree.leaf (Value.Text units)
plain_layer (Tree-F.Bytes bytes) = PlainTree.leaf (Value.Bytes bytes)
plain_layer (Tree-F.Object parts) = PlainTree.object parts
plain_layer (Tree-F.List parts) = PlainTree.list parts
plain_layer (Tree-F.Set parts) = PlainTree.set parts
plain_layer (Tree-F.Map parts) = PlainTree.map parts

-- the plain tree of a tree
abbrev pub plain : Tree → PlainTree
plain = fold-Tree PlainTree PlainPairs PlainTrees plain_layer (λ parts. pairs_of_list parts.items.items) (λ parts. trees_of_list parts.items.items)

-- the plain trees of a list
abbrev pub plain_trees : Trees → List PlainTree
plain_trees ts = map plain (trees ts)

-- the plain trees of a key and its value
abbrev pub plain_pair : Tree × Tree → PlainTree × PlainTree
plain_pair pair = (plain pair.0, plain pair.1)

-- the plain trees of a list of pairs
abbrev pub plain_pairs : TreePairs → List (PlainTree × PlainTree)
plain_pairs ts = map plain_pair (tree_pairs ts)
