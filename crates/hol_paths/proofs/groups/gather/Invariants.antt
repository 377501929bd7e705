use Rattle.std.proofs.Common.{length}
use Rattle.linked_slots.specs.Chained.{left_at}
use Rattle.hol_paths.proofs.Gathering.{IsGathering}
use Rattle.hol_paths.proofs.groups.gather.Given as goal

abbrev pub invariant-loop-at : goal.invariant-loop-at
invariant-loop-at l = IsGathering l.chains l.number l.initial.found.items l.found.items l.at

abbrev pub decreases-loop-at : goal.decreases-loop-at
decreases-loop-at l = length (left_at l.chains l.number l.at)
