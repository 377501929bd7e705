use Rattle.std.proofs.Common.{◌≡◌, map, take}
use Rattle.key_index.specs.Slots.{slot_of}
use Rattle.key_index.proofs.key_slots.large_slots.Given as goal

abbrev pub invariant-loop-slot : goal.invariant-loop-slot
invariant-loop-slot l = l.large.items ≡ map slot_of (take l.slot-index l.slots)
