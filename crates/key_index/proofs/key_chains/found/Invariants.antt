use Rattle.std.proofs.Common.{length}
use Rattle.linked_slots.specs.Chained.{left_at}
use Rattle.key_index.specs.Slots.{slots_in}
use Rattle.key_index.proofs.Walking.{IsWalked}
use Rattle.key_index.proofs.key_chains.found.Given as goal

abbrev pub invariant-loop-at : goal.invariant-loop-at
invariant-loop-at l = IsWalked (slots_in l.slots) l.chains l.key l.hash l.found.items l.at

abbrev pub decreases-loop-at : goal.decreases-loop-at
decreases-loop-at l = length (left_at l.chains l.hash l.at)
