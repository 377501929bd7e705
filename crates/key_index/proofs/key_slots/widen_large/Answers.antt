use Rattle.std.proofs.Common.{arith}
use Rattle.key_index.proofs.Forms.{widens_more, widens_none}
use Rattle.key_index.proofs.key_slots.widen_large.Goals as goal

pub loop-slots-init : goal.loop-slots-init
loop-slots-init c = widens_none _ _

pub loop-slots-preserved : goal.loop-slots-preserved
loop-slots-preserved c = widens_more _ c.loop-slots.slots.items _ _ c.loop-slots.invariant (omega arith) c.in_ok-push.ensures.items
