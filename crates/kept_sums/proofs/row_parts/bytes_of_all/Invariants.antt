use Rattle.std.proofs.Common.{◌≡◌, take}
use Rattle.object_codec.specs.Widths.{byte_count}
use Rattle.kept_sums.proofs.row_parts.bytes_of_all.Given as goal

abbrev pub invariant-loop-value : goal.invariant-loop-value
invariant-loop-value l = l.bytes ≡ byte_count (take l.value-index l.values)
