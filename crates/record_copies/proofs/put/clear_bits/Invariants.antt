use Rattle.std.proofs.Common.{◌≤◌, ◌-◌}
use Rattle.bit_array.specs.Element.{SetsBlock}
use Rattle.record_copies.proofs.put.clear_bits.Given as goal

abbrev pub invariant-loop-done : goal.invariant-loop-done
invariant-loop-done l = SetsBlock l.initial.first l.first l.start l.done 0 × (l.done ≤ l.size)

abbrev pub decreases-loop-done : goal.decreases-loop-done
decreases-loop-done l = l.size - l.done
