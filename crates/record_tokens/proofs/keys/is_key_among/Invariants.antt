-- Whether some key is the same is whether one of those that are left is.
use Rattle.std.proofs.Common.{◌↔◌, Any, map, drop}
use Rattle.row_model.specs.PlainTree.{SameTree}
use Rattle.record_trees.specs.Tree.{plain, plain_pair}
use Rattle.record_tokens.proofs.keys.is_key_among.Given as goal

abbrev pub invariant-loop-pair : goal.invariant-loop-pair
invariant-loop-pair l = Any (λ pair. SameTree (plain l.key) pair.0) (map plain_pair l.pairs) ↔ Any (λ pair. SameTree (plain l.key) pair.0) (map plain_pair (drop l.pair-index l.pairs))
