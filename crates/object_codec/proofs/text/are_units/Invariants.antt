use Rattle.std.proofs.Common.{ℕ, List, ◌-◌, length}
use Rattle.hol_varint.specs.Varint.{varint_bytes}
use Rattle.hol_varint.proofs.Runs.{ReadSoFar}
use Rattle.object_codec.proofs.text.are_units.Given as goal

abbrev pub invariant-loop-place : goal.invariant-loop-place
invariant-loop-place l = (units : List ℕ) × ReadSoFar varint_bytes l.bytes l.place units

abbrev pub decreases-loop-place : goal.decreases-loop-place
decreases-loop-place l = length l.bytes - l.place
