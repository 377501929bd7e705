use Rattle.std.proofs.Common.{take}
use Rattle.hol_incremental.specs.Drops.{IsLowered, MayFall}
use Rattle.hol_incremental.proofs.drops.lower_all.Given as goal

abbrev pub invariant-loop-row : goal.invariant-loop-row
invariant-loop-row l = IsLowered (MayFall l.model l.leaving) (take l.row-index l.named) l.initial.counts l.counts l.initial.pending.items l.pending.items
