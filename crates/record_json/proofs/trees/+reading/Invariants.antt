-- The parts of a record are those that were passed; each call goes to a type less deep, or from a list of parts to one of them.
use Rattle.std.proofs.Common.{◌+◌, ◌*◌}
use Rattle.serde_json.specs.View.{view}
use Rattle.record_trees.specs.Tree.{plain_trees, plain_pairs}
use Rattle.record_json.specs.ReadTree.{read_named, read_pair}
use Rattle.json_values.proofs.ReadingEach.{WasRead}
use Rattle.record_json.proofs.ReadingTrees.{WasReadOf}
use Rattle.record_json.proofs.trees.+reading.Given as goal

abbrev pub decreases-tree_within : goal.decreases-tree_within
decreases-tree_within l = 5 * l.depth

abbrev pub decreases-named_from : goal.decreases-named_from
decreases-named_from l = 5 * l.depth + 1

abbrev pub decreases-field_from : goal.decreases-field_from
decreases-field_from l = 5 * l.depth + 2

abbrev pub decreases-pair_from : goal.decreases-pair_from
decreases-pair_from l = 5 * l.depth + 3

abbrev pub decreases-fields_from : goal.decreases-fields_from
decreases-fields_from l = 5 * l.depth + 4

abbrev pub decreases-elements_from : goal.decreases-elements_from
decreases-elements_from l = 5 * l.depth + 4

abbrev pub decreases-pairs_from : goal.decreases-pairs_from
decreases-pairs_from l = 5 * l.depth + 4

abbrev pub invariant-fields_from-loop-field : goal.invariant-fields_from-loop-field
invariant-fields_from-loop-field l = WasReadOf (read_named l.model l.depth) (view l.value) l.fields l.field-index (plain_trees l.trees)

abbrev pub invariant-elements_from-loop-item : goal.invariant-elements_from-loop-item
invariant-elements_from-loop-item l = WasRead (read_named l.model l.depth l.element) l.items l.item-index (plain_trees l.trees)

abbrev pub invariant-pairs_from-loop-item : goal.invariant-pairs_from-loop-item
invariant-pairs_from-loop-item l = WasRead (read_pair (read_named l.model l.depth l.key) (read_named l.model l.depth l.part)) l.items l.item-index (plain_pairs l.pairs)

abbrev pub decreases-both_from : goal.decreases-both_from
decreases-both_from l = 5 * l.depth + 2
