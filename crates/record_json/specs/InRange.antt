-- When the values of a tree or of a row are in range: an INT of 32 bits, a LONG of 64, the units of a STRING below 2^16, and bytes below 2^8.
use Rattle.std.specs.Prelude.{All}
use Rattle.hex.specs.Hex.{IsBytes}
use Rattle.row_model.specs.declared.row.Row.{Row}
use Rattle.row_model.specs.declared.row.Value.{Value}
use Rattle.row_model.specs.PlainTree.{PlainTree, PlainTrees, PlainPairs, leaf, object, list, set, map, no_trees, tree_then, no_pairs, pair_then}
use Rattle.row_model.specs.Row.{IsValueInRange}

-- a value is in range, and so is each of its bytes
abbrev pub IsLeafInRange : Value → Type 0
IsLeafInRange (Value.Bytes bytes) = IsBytes bytes
IsLeafInRange value = IsValueInRange value

abbrev mutual
  pub IsTreeInRange : PlainTree → Type 0
  IsTreeInRange (leaf value) = IsLeafInRange value
  IsTreeInRange (object trees) = AreTreesInRange trees
  IsTreeInRange (list trees) = AreTreesInRange trees
  IsTreeInRange (set trees) = AreTreesInRange trees
  IsTreeInRange (map pairs) = ArePairsInRange pairs

  pub AreTreesInRange : PlainTrees → Type 0
  AreTreesInRange no_trees = Unit {0}
  AreTreesInRange (tree_then tree trees) = IsTreeInRange tree × AreTreesInRange trees

  pub ArePairsInRange : PlainPairs → Type 0
  ArePairsInRange no_pairs = Unit {0}
  ArePairsInRange (pair_then key value pairs) = IsTreeInRange key × IsTreeInRange value × ArePairsInRange pairs

-- the values of a record are in range
abbrev pub HasValuesInRange : Row → Type 0
HasValuesInRange (Row.Object values) = All IsLeafInRange values
HasValuesInRange row = Unit {0}
