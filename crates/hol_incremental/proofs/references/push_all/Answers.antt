use Rattle.hol_incremental.proofs.NamedSteps.{map_more}
use Rattle.hol_incremental.proofs.references.push_all.Goals as goal

pub loop-ordinal-preserved : goal.loop-ordinal-preserved
loop-ordinal-preserved c =
    map_more c.args.model.now (λ ordinal. (c.args.name.now, ordinal)) c.args.ordinals.now c.loop-ordinal.ordinal-index _ c.args.named.now.items c.loop-ordinal.named.items c.push_one.new.named.items
    c.loop-ordinal-test.true c.loop-ordinal.invariant c.in_ok-push_one.ensures
