use Rattle.std.proofs.Common.{◌≡◌, take}
use Rattle.std.specs.List.{fold}
use Rattle.row_hash.specs.Hash.{mixed}
use Rattle.row_hash.proofs.hash.mix_ordinals.Given as goal

abbrev pub invariant-loop-ordinal : goal.invariant-loop-ordinal
invariant-loop-ordinal l = l.hash ≡ fold mixed 0 (take l.ordinal-index l.ordinals)
