use Rattle.std.proofs.Common.{◌≡◌, take}
use Rattle.bucket_codec.specs.Run.{keys_of}
use Rattle.bucket_codec.proofs.row.keys.Given as goal

abbrev pub invariant-loop-key : goal.invariant-loop-key
invariant-loop-key l = l.keys ≡ keys_of (take l.key-index l.pairs)
