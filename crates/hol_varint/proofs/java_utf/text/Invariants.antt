use Rattle.std.proofs.Common.{◌-◌, length}
use Rattle.hol_varint.specs.JavaUtf.{unit_bytes}
use Rattle.hol_varint.proofs.Runs.{ReadSoFar}
use Rattle.hol_varint.proofs.java_utf.text.Given as goal

abbrev pub invariant-loop-place : goal.invariant-loop-place
invariant-loop-place l = ReadSoFar unit_bytes l.bytes l.place l.units.items

abbrev pub decreases-loop-place : goal.decreases-loop-place
decreases-loop-place l = length l.bytes - l.place
