use Rattle.std.proofs.Common.{◌≡◌, ◌-◌, ◌^◌, min, take}
use Rattle.std.specs.Prelude.{sum_by}
use Rattle.type_rows.specs.WordsHeld.{value_bytes}
use Rattle.type_rows.proofs.count.values_len.Given as goal

abbrev pub invariant-loop-value : goal.invariant-loop-value
invariant-loop-value l = l.len ≡ min (sum_by value_bytes (take l.value-index l.values)) (2 ^ 64 - 1)
