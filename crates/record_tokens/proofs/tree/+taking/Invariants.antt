-- The parts of a record are those whose tokens were passed; each call goes to a type less deep, or from a list of parts to one of them.
use Rattle.std.proofs.Common.{◌+◌, ◌*◌, length, map}
use Rattle.record_trees.specs.Tree.{plain, plain_pairs, plain_trees}
use Rattle.record_json.specs.ReadTree.{read_named, read_pair}
use Rattle.record_tokens.proofs.FieldsTaken.{AreBeingTaken}
use Rattle.record_tokens.proofs.ItemsTaken.{AreTaken}
use Rattle.record_tokens.proofs.tree.+taking.Given as goal

abbrev pub decreases-tree_behind : goal.decreases-tree_behind
decreases-tree_behind l = 6 * l.depth

abbrev pub decreases-named_behind : goal.decreases-named_behind
decreases-named_behind l = 6 * l.depth + 1

abbrev pub decreases-named_ahead : goal.decreases-named_ahead
decreases-named_ahead l = 6 * l.depth + 2

abbrev pub decreases-field_ahead : goal.decreases-field_ahead
decreases-field_ahead l = 6 * l.depth + 2

abbrev pub decreases-pair_ahead : goal.decreases-pair_ahead
decreases-pair_ahead l = 6 * l.depth + 3

abbrev pub decreases-fields_ahead : goal.decreases-fields_ahead
decreases-fields_ahead l = 6 * l.depth + 4

abbrev pub decreases-elements_ahead : goal.decreases-elements_ahead
decreases-elements_ahead l = 6 * l.depth + 4

abbrev pub decreases-pairs_ahead : goal.decreases-pairs_ahead
decreases-pairs_ahead l = 6 * l.depth + 4

abbrev pub invariant-elements_ahead-elements : goal.invariant-elements_ahead-elements
invariant-elements_ahead-elements l = AreTaken (read_named l.model l.depth l.element) l.nest l.initial.reader l.reader (plain_trees l.parts)

abbrev pub decreases-elements_ahead-elements : goal.decreases-elements_ahead-elements
decreases-elements_ahead-elements l = length l.reader

abbrev pub invariant-pairs_ahead-each : goal.invariant-pairs_ahead-each
invariant-pairs_ahead-each l = AreTaken (read_pair (read_named l.model l.depth l.key) (read_named l.model l.depth l.part)) l.nest l.initial.reader l.reader (plain_pairs l.pairs)

abbrev pub decreases-pairs_ahead-each : goal.decreases-pairs_ahead-each
decreases-pairs_ahead-each l = length l.reader

abbrev pub invariant-fields_ahead-members : goal.invariant-fields_ahead-members
invariant-fields_ahead-members l = AreBeingTaken (read_named l.model l.depth) l.nest l.fields l.initial.reader l.reader (map plain l.slots.items)

abbrev pub decreases-fields_ahead-members : goal.decreases-fields_ahead-members
decreases-fields_ahead-members l = length l.reader
