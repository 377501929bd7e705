use Rattle.std.proofs.Common.{arith}
use Rattle.list_codec.proofs.ListElements.{no_reaches_yet}
use Rattle.list_codec.proofs.faults.ordinal_reaches.Goals as goal

pub loop-index-init : goal.loop-index-init
loop-index-init c = (no_reaches_yet c.args.words.now c.args.width c.new-reaches.result.items c.new-reaches.ensures.items, λ index low below. absurd (omega arith))
