use Rattle.std.proofs.Common.{arith}
use Rattle.hol_history.proofs.SpotSets.{take_more_spots}
use Rattle.hol_history.proofs.spots.take_spots.Goals as goal

pub loop-ordinal-preserved : goal.loop-ordinal-preserved
loop-ordinal-preserved c =
    take_more_spots c.args.spots.now c.loop-ordinal.spots c.remove.new.self c.args.type_index c.args.number c.loop-ordinal.ordinal-index c.args.ordinals.now (omega arith) c.loop-ordinal.invariant c.remove.ensures.updates.0
