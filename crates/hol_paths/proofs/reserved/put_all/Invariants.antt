use Rattle.std.proofs.Common.{◌≡◌, ◌++◌, take}
use Rattle.hol_paths.proofs.reserved.put_all.Given as goal

abbrev pub invariant-loop-slot : goal.invariant-loop-slot
invariant-loop-slot l = l.entries ≡ record l.initial.entries { slots = l.initial.entries.slots ++ take l.slot-index l.coming }
