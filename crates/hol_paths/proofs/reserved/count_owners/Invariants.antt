use Rattle.std.proofs.Common.{◌≡◌, map, take}
use Rattle.hol_paths.specs.Slots.{owner_in}
use Rattle.hol_paths.proofs.reserved.count_owners.Given as goal

abbrev pub invariant-loop-slot : goal.invariant-loop-slot
invariant-loop-slot l = l.owners.items ≡ map owner_in (take l.slot-index l.slots)
