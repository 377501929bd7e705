use Rattle.std.proofs.Common.{◌≡◌, take}
use Rattle.std.specs.List.{fold}
use Rattle.row_hash.specs.Hash.{mixed}
use Rattle.row_hash.proofs.hash.mix_bytes.Given as goal

abbrev pub invariant-loop-byte : goal.invariant-loop-byte
invariant-loop-byte l = l.mixed ≡ fold mixed l.hash (take l.byte-index l.bytes)
