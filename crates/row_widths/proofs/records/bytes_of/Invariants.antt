use Rattle.std.proofs.Common.{◌≡◌, ◌-◌, ◌^◌, take, min}
use Rattle.object_codec.specs.Widths.{byte_count}
use Rattle.row_widths.proofs.records.bytes_of.Given as goal

abbrev pub invariant-loop-value : goal.invariant-loop-value
invariant-loop-value l = l.bytes ≡ min (byte_count (take l.value-index l.values)) (2 ^ 64 - 1)
