use Rattle.std.proofs.Common.{arith}
use Rattle.record_copies.proofs.RecordPuts.{none_cleared, more_cleared}
use Rattle.record_copies.proofs.put.clear_bits.Goals as goal

pub loop-done-init : goal.loop-done-init
loop-done-init c = (none_cleared c.args.first.now c.args.start, omega arith)

pub loop-done-preserved : goal.loop-done-preserved
loop-done-preserved c = (
  more_cleared c.args.first.now c.loop-done.first c.set_element.new.words c.args.start c.loop-done.done c.min-width.result c.loop-done.invariant.0 c.set_element.ensures.block,
  omega (arith, c.min-width.ensures),
)
