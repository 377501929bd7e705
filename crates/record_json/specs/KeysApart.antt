-- When no map in a tree has two keys that are the same record.
use Rattle.row_model.specs.PlainTree.{PlainTree, PlainTrees, PlainPairs, leaf, object, list, set, map, no_trees, tree_then, no_pairs, pair_then}
use Rattle.record_trees.specs.FitsTree.{AreKeysApart}

-- the keys of each map in the tree are apart
abbrev mutual
  pub HasKeysApart : PlainTree → Type 0
  HasKeysApart (leaf value) = Unit {0}
  HasKeysApart (object trees) = HaveKeysApart trees
  HasKeysApart (list trees) = HaveKeysApart trees
  HasKeysApart (set trees) = HaveKeysApart trees
  HasKeysApart (map pairs) = AreKeysApart pairs × HaveKeysApartEach pairs

  pub HaveKeysApart : PlainTrees → Type 0
  HaveKeysApart no_trees = Unit {0}
  HaveKeysApart (tree_then tree trees) = HasKeysApart tree × HaveKeysApart trees

  pub HaveKeysApartEach : PlainPairs → Type 0
  HaveKeysApartEach no_pairs = Unit {0}
  HaveKeysApartEach (pair_then key value pairs) = HasKeysApart key × HasKeysApart value × HaveKeysApartEach pairs
