use Rattle.std.proofs.Common.{◌≡◌, map, take}
use Rattle.hol_incremental.proofs.counts.copy_lists.Given as goal

abbrev pub invariant-loop-list : goal.invariant-loop-list
invariant-loop-list l = map (λ list. list.items) l.copies.items ≡ map (λ list. list.items) (take l.list-index l.lists)
