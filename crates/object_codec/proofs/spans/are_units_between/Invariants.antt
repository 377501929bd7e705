use Rattle.std.proofs.Common.{ℕ, List, ◌-◌, length, take, drop}
use Rattle.hol_varint.specs.Varint.{varint_bytes}
use Rattle.hol_varint.proofs.Runs.{ReadSoFar}
use Rattle.object_codec.proofs.spans.are_units_between.Given as goal

abbrev pub invariant-loop-place : goal.invariant-loop-place
invariant-loop-place l = (units : List ℕ) × ReadSoFar varint_bytes (take (l.end - l.start) (drop l.start l.bytes)) l.place units

abbrev pub decreases-loop-place : goal.decreases-loop-place
decreases-loop-place l = length l.span - l.place
