use Rattle.hol_incremental.proofs.SumLists.{AreNoneOf}
use Rattle.hol_incremental.proofs.tally.no_sums.Given as goal

abbrev pub invariant-loop-type_index : goal.invariant-loop-type_index
invariant-loop-type_index l = AreNoneOf l.model l.type_index l.sums.items
