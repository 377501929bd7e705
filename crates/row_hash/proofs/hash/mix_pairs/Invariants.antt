use Rattle.std.proofs.Common.{◌≡◌, take}
use Rattle.std.specs.List.{fold}
use Rattle.row_hash.specs.Hash.{mixed_pair}
use Rattle.row_hash.proofs.hash.mix_pairs.Given as goal

abbrev pub invariant-loop-pair : goal.invariant-loop-pair
invariant-loop-pair l = l.hash ≡ fold mixed_pair 0 (take l.pair-index l.pairs)
