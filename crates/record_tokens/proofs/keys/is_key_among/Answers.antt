use Rattle.row_model.specs.PlainTree.{SameTree}
use Rattle.record_trees.specs.Tree.{plain, plain_pair}
use Rattle.record_trees.proofs.Passing.{any_is_some, refuted, some_found, some_passed, yes}
use Rattle.record_tokens.proofs.keys.is_key_among.Goals as goal

pub returns-then-same_tree : goal.returns-then-same_tree
returns-then-same_tree c =
    yes (some_found (any_is_some (λ pair. SameTree (plain c.args.key.now) pair.0)) plain_pair c.args.pairs.now c.loop-pair.pair-index c.pair-item.result c.loop-pair-test.true c.pair-item.is c.loop-pair.invariant
    (c.same_tree.ensures.0 c.if-same_tree.true))

pub loop-pair-preserved : goal.loop-pair-preserved
loop-pair-preserved c =
    some_passed (any_is_some (λ pair. SameTree (plain c.args.key.now) pair.0)) plain_pair c.args.pairs.now c.loop-pair.pair-index c.pair-item.result c.loop-pair-test.true c.pair-item.is c.loop-pair.invariant
    (refuted c.same_tree.result c.if-same_tree.false c.same_tree.ensures)
