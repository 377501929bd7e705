use Rattle.std.proofs.Common.{◌≡◌, ◌++◌, length}
use Rattle.std.specs.Vec.Iter.{into_iter_items, into_iter_len}
use Rattle.record_trees.specs.Tree.{trees}
use Rattle.record_tokens.proofs.tree.trees_of.Given as goal

abbrev pub invariant-loop-slot : goal.invariant-loop-slot
invariant-loop-slot l = record {
  parts : trees l.parts ≡ l.yielded;
  left : l.yielded ++ into_iter_items l.slot-iterator ≡ into_iter_items l.initial.slot-iterator;
  long : into_iter_len l.slot-iterator ≡ length (into_iter_items l.slot-iterator);
}
