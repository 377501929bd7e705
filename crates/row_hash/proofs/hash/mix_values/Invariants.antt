use Rattle.std.proofs.Common.{◌≡◌, take}
use Rattle.std.specs.List.{fold}
use Rattle.row_hash.specs.Hash.{mixed_value}
use Rattle.row_hash.proofs.hash.mix_values.Given as goal

abbrev pub invariant-loop-value : goal.invariant-loop-value
invariant-loop-value l = l.hash ≡ fold mixed_value 0 (take l.value-index l.values)
