use Rattle.std.proofs.Common.{◌≡◌, take}
use Rattle.std.specs.List.{fold}
use Rattle.row_hash.specs.Hash.{mixed}
use Rattle.row_hash.proofs.hash.mix_units.Given as goal

abbrev pub invariant-loop-unit : goal.invariant-loop-unit
invariant-loop-unit l = l.mixed ≡ fold mixed l.hash (take l.unit-index l.units)
