use Rattle.std.proofs.Common.{rules}
use Rattle.chain_store.proofs.Tagged.{tagged_found, none_tagged}
use Rattle.chain_store.proofs.tags.are_tagged.Goals as goal

pub returns-then-branch-clause-tagged : goal.returns-then-branch-clause-tagged
returns-then-branch-clause-tagged g c =
    tagged_found _ _ c.args.bits c.args.listed.now c.in_ok-is_tagged.field-0 c.loop-name.name-index _ c.loop-name.invariant.0 c.in_ok-is_tagged.ensures.tagged
    c.if-branch.true c.loop-name-test.true (search rules)

pub returns-clause-tagged : goal.returns-clause-tagged
returns-clause-tagged g c = none_tagged _ c.args.bits c.args.listed.now c.loop-name.name-index c.loop-name-test.false c.loop-name.invariant.3
