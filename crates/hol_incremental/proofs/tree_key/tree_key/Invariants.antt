use Rattle.std.proofs.Common.{◌≡◌, Some, take}
use Rattle.record_trees.specs.Tree.{plain}
use Rattle.hol_incremental.specs.Roots.{key_of_tree}
use Rattle.hol_incremental.proofs.tree_key.tree_key.Given as goal

abbrev pub invariant-loop-path : goal.invariant-loop-path
invariant-loop-path l = key_of_tree (take l.path-index l.paths) (plain l.tree) ≡ Some l.key
