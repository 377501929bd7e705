use Rattle.std.proofs.Common.{◌-◌, vec_len}
use Rattle.key_index.specs.Slots.{Widens}
use Rattle.key_index.proofs.key_slots.widen_large.Given as goal

abbrev pub invariant-loop-slots : goal.invariant-loop-slots
invariant-loop-slots l = Widens l.initial.slots.items l.room l.slots.items

abbrev pub decreases-loop-slots : goal.decreases-loop-slots
decreases-loop-slots l = l.room - vec_len l.slots
