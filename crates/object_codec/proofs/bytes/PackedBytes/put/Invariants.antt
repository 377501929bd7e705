use Rattle.std.proofs.Common.{◌≡◌, ◌++◌, take}
use Rattle.object_codec.specs.Bytes.{bytes_of}
use Rattle.object_codec.proofs.bytes.PackedBytes.put.Given as goal

abbrev pub invariant-loop-at : goal.invariant-loop-at
invariant-loop-at l = l.out.items ≡ l.initial.out.items ++ take l.at (bytes_of l.self)
