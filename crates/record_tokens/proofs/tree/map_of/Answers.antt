use Rattle.std.proofs.Common.{map, subst, sym}
use Rattle.row_model.specs.PlainTree.{pairs_of_list}
use Rattle.record_trees.proofs.Arms.{map_plain}
use Rattle.record_trees.specs.FitsTree.{AreKeysApart}
use Rattle.record_trees.specs.Tree.{plain_pair}
use Rattle.record_tokens.proofs.tree.map_of.Goals as goal

pub returns-then-are_keys_apart : goal.returns-then-are_keys_apart
returns-then-are_keys_apart c =
    (sym (map_plain c.args.pairs), subst (λ ps. AreKeysApart (pairs_of_list (map plain_pair ps))) c.as_slice.ensures (c.are_keys_apart.ensures.0 c.if-are_keys_apart.true))
