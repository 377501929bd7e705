use Rattle.std.proofs.Common.{◌≡◌, length, take}
use Rattle.hol_varint.proofs.text_units.write_ascii.Given as goal

abbrev pub invariant-loop-index : goal.invariant-loop-index
invariant-loop-index l = (length l.bytes ≡ length l.units) × (take l.index l.bytes ≡ take l.index l.units)
