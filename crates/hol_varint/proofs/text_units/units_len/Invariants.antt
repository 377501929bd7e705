use Rattle.std.proofs.Common.{◌≡◌, ◌-◌, ◌^◌, min, length, take}
use Rattle.std.specs.Prelude.{sum_by}
use Rattle.hol_varint.specs.Varint.{varint_bytes}
use Rattle.hol_varint.proofs.text_units.units_len.Given as goal

abbrev pub invariant-loop-unit : goal.invariant-loop-unit
invariant-loop-unit l = l.len ≡ min (sum_by (λ unit. length (varint_bytes unit)) (take l.unit-index l.units)) (2 ^ 64 - 1)
