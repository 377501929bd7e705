use Rattle.hol_varint.proofs.VarReading.{InFront}
use Rattle.hol_varint.proofs.varint.groups.Given as goal

abbrev pub invariant-loop-place : goal.invariant-loop-place
invariant-loop-place l = InFront l.bytes l.at l.place l.number
