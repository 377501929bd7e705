use Rattle.std.proofs.Common.{arith}
use Rattle.state_moves.proofs.Judging.{offset_behind, offset_here, offset_past}
use Rattle.state_moves.proofs.closing.offset_of.Goals as goal

pub returns-then-part-type_index : goal.returns-then-part-type_index
returns-then-part-type_index c =
    offset_here c.args.parts.now c.loop-part.part-index c.part-item.result c.args.size c.args.type_index c.loop-part-test.true c.part-item.is c.loop-part.invariant c.if-part-type_index.true

pub loop-part-preserved : goal.loop-part-preserved
loop-part-preserved c =
    offset_behind c.args.parts.now c.loop-part.part-index c.part-item.result c.args.size c.args.type_index c.loop-part-test.true c.part-item.is c.loop-part.invariant c.if-part-type_index.false

pub returns : goal.returns
returns c = offset_past c.args.parts.now c.loop-part.part-index c.args.size c.args.type_index (omega (arith, c.loop-part-test.false, c.loop-part.auto.part-index-end)) c.loop-part.invariant
