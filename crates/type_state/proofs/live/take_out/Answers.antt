use Rattle.std.proofs.Common.{refl}
use Rattle.type_state.specs.Live.{without_all}
use Rattle.type_state.proofs.LiveSets.{taken_all, taken_more}
use Rattle.type_state.proofs.live.take_out.Goals as goal

pub loop-ordinal-init : goal.loop-ordinal-init
loop-ordinal-init c = refl

pub loop-ordinal-preserved : goal.loop-ordinal-preserved
loop-ordinal-preserved c =
    taken_more c.loop-ordinal.set _ (without_all c.args.set.now c.args.removed.now) c.args.removed.now c.loop-ordinal.ordinal-index _ c.loop-ordinal.invariant c.loop-ordinal-test.true refl
    c.remove.ensures.removed

pub returns : goal.returns
returns c = taken_all c.loop-ordinal.set (without_all c.args.set.now c.args.removed.now) c.args.removed.now c.loop-ordinal.ordinal-index c.loop-ordinal.invariant c.loop-ordinal-test.false
