use Rattle.hol_varint.proofs.VarWriting.{Filled}
use Rattle.hol_varint.proofs.varint.spelling.Given as goal

abbrev pub invariant-loop-high : goal.invariant-loop-high
invariant-loop-high l = Filled l.bytes l.start l.high l.number

abbrev pub decreases-loop-high : goal.decreases-loop-high
decreases-loop-high l = l.high
