use Rattle.std.proofs.Common.{◌≡◌, ◌≤◌, length, drop}
use Rattle.hol_paths.specs.Slots.{without_slots}
use Rattle.hol_paths.proofs.reserved.take_out_all.Given as goal

-- those behind this place are taken out
abbrev pub invariant-loop-left : goal.invariant-loop-left
invariant-loop-left l = record {
  within : l.left ≤ length l.places;
  taken : l.entries ≡ record l.initial.entries { slots = without_slots (drop l.left l.places) l.initial.entries.slots };
}

abbrev pub decreases-loop-left : goal.decreases-loop-left
decreases-loop-left l = l.left
