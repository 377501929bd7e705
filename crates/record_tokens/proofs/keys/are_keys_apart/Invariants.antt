-- Whether all keys are apart is whether those that are left are.
use Rattle.std.proofs.Common.{◌↔◌, map, drop}
use Rattle.row_model.specs.PlainTree.{pairs_of_list}
use Rattle.record_trees.specs.Tree.{plain_pair}
use Rattle.record_trees.specs.FitsTree.{AreKeysApart}
use Rattle.record_tokens.proofs.keys.are_keys_apart.Given as goal

abbrev pub invariant-loop-place : goal.invariant-loop-place
invariant-loop-place l = AreKeysApart (pairs_of_list (map plain_pair l.pairs)) ↔ AreKeysApart (pairs_of_list (map plain_pair (drop l.place l.pairs)))
