use Rattle.hol_incremental.proofs.NamedSteps.{pair_more}
use Rattle.hol_incremental.proofs.references.push_pairs.Goals as goal

pub loop-pair-preserved : goal.loop-pair-preserved
loop-pair-preserved c =
    pair_more c.args.model.now (λ pair. (c.args.key.now, pair.0)) (λ pair. (c.args.value.now, pair.1)) c.args.pairs.now c.loop-pair.pair-index _ c.args.named.now.items c.loop-pair.named.items c.push_one.new.named.items
    c.push_one-in-loop-pair.new.named.items c.loop-pair-test.true c.loop-pair.invariant c.in_ok-push_one.ensures c.in_ok-push_one-2.ensures
