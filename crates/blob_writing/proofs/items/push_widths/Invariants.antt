-- The widths before this one are written, behind what stood there.
use Rattle.std.proofs.Common.{◌≡◌, ◌++◌, take, flat_map}
use Rattle.hol_varint.specs.Varint.{varint_bytes}
use Rattle.blob_writing.proofs.items.push_widths.Given as goal

abbrev pub invariant-loop-width : goal.invariant-loop-width
invariant-loop-width l = l.out.items ≡ l.initial.out.items ++ flat_map varint_bytes (take l.width-index l.widths)
