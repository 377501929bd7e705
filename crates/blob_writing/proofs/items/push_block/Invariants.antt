-- The words before this one are laid out.
use Rattle.std.proofs.Common.{◌≡◌, length, take, map}
use Rattle.std.specs.Int.{w64, to_be_bytes}
use Rattle.blob_writing.proofs.items.push_block.Given as goal

abbrev pub invariant-loop-index : goal.invariant-loop-index
invariant-loop-index l = (length l.bytes ≡ 32) × (take l.index l.bytes ≡ map (to_be_bytes w64) (take l.index l.words))
