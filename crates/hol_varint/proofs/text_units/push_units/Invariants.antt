use Rattle.std.proofs.Common.{◌≡◌, ◌++◌, take}
use Rattle.hol_varint.specs.TextUnits.{units_bytes}
use Rattle.hol_varint.proofs.text_units.push_units.Given as goal

abbrev pub invariant-loop-unit : goal.invariant-loop-unit
invariant-loop-unit l = l.out.items ≡ l.initial.out.items ++ units_bytes (take l.unit-index l.units)
