use Rattle.std.proofs.Common.{◌≡◌, ◌++◌, ◌*◌, take}
use Rattle.object_codec.specs.Bytes.{bytes_of}
use Rattle.record_copies.proofs.bytes.put_bytes.Given as goal

abbrev pub invariant-loop-index : goal.invariant-loop-index
invariant-loop-index l = l.out.items ≡ l.initial.out.items ++ take (8 * l.index) (bytes_of l.bytes)
