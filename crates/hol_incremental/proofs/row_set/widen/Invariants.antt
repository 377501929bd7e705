use Rattle.std.proofs.Common.{◌≡◌, ◌+◌, ◌-◌, ℕ, [], get_or, length}
use Rattle.hol_incremental.proofs.row_set.widen.Given as goal

abbrev pub invariant-loop-alloc : goal.invariant-loop-alloc
invariant-loop-alloc l = (t : ℕ) → get_or l.sets.items t [] ≡ get_or l.initial.sets.items t []

abbrev pub decreases-loop-alloc : goal.decreases-loop-alloc
decreases-loop-alloc l = l.place + 1 - length l.sets.items
