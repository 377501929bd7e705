use Rattle.std.proofs.Common.{◌≡◌, ◌≤◌, length, take}
use Rattle.std.specs.Prelude.{vec_capacity, vec_len}
use Rattle.hol_varint.proofs.text_units.ascii_units.Given as goal

abbrev pub invariant-loop-byte : goal.invariant-loop-byte
invariant-loop-byte l = (l.units.items ≡ take l.byte-index l.bytes) × (length l.bytes ≤ vec_capacity l.units) × (vec_len l.units ≡ l.byte-index)
