use Rattle.std.proofs.Common.{arith}
use Rattle.key_index.proofs.Forms.{small_widens}
use Rattle.key_index.proofs.key_slots.widen_small.Goals as goal

pub returns-in_ok-resize-clause-widens : goal.returns-in_ok-resize-clause-widens
returns-in_ok-resize-clause-widens c = small_widens c.args.slots.now.items c.resize.new.self.items c.args.room _ (omega arith) (omega arith) c.in_ok-resize.ensures.items
