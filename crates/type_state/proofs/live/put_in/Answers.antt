use Rattle.std.proofs.Common.{refl}
use Rattle.type_state.specs.Live.{with_all}
use Rattle.type_state.proofs.LiveSets.{put_all, put_more}
use Rattle.type_state.proofs.live.put_in.Goals as goal

pub loop-ordinal-init : goal.loop-ordinal-init
loop-ordinal-init c = refl

pub loop-ordinal-preserved : goal.loop-ordinal-preserved
loop-ordinal-preserved c =
    put_more c.loop-ordinal.set _ (with_all c.args.set.now c.args.added.now) c.args.added.now c.loop-ordinal.ordinal-index _ c.loop-ordinal.invariant c.loop-ordinal-test.true refl
    c.in_ok-insert.ensures.ok

pub returns : goal.returns
returns c = put_all c.loop-ordinal.set (with_all c.args.set.now c.args.added.now) c.args.added.now c.loop-ordinal.ordinal-index c.loop-ordinal.invariant c.loop-ordinal-test.false
