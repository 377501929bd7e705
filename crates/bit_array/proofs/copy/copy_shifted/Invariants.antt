use Rattle.std.proofs.Common.{◌*◌, ◌+◌}
use Rattle.bit_array.specs.Element.{element_of, SetsBlock}
use Rattle.bit_array.proofs.copy.copy_shifted.Given as goal

abbrev pub invariant-loop-index : goal.invariant-loop-index
invariant-loop-index l = SetsBlock l.initial.to l.to (64 * l.first) (64 * l.index) (element_of l.from (64 * l.base + l.shift) (64 * l.index))
