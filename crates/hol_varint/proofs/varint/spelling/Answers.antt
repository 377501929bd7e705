use Rattle.std.proofs.Common.{arith}
use Rattle.hol_varint.proofs.VarWriting.{filled_last, filled_more, filled_whole}
use Rattle.hol_varint.proofs.varint.spelling.Goals as goal

pub loop-high-init : goal.loop-high-init
loop-high-init c = filled_last c.args.number (omega arith)

pub loop-high-preserved : goal.loop-high-preserved
loop-high-preserved c = filled_more c.loop-high.bytes c.loop-high.start c.loop-high.high c.args.number (omega arith) c.loop-high.invariant

pub returns-clause-spelled : goal.returns-clause-spelled
returns-clause-spelled c = filled_whole c.loop-high.bytes c.loop-high.start c.loop-high.high c.args.number (omega arith) c.loop-high.invariant
