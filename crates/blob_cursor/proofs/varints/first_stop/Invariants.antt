use Rattle.std.proofs.Common.{take}
use Rattle.hol_varint.specs.Varint.{GoOn}
use Rattle.blob_cursor.proofs.varints.first_stop.Given as goal

abbrev pub invariant-loop-place : goal.invariant-loop-place
invariant-loop-place l = GoOn (take l.place l.bytes)
