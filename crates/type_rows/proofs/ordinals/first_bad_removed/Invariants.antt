use Rattle.type_rows.specs.Ordinals.{FailsRemoved}
use Rattle.type_rows.proofs.Walks.{Walked}
use Rattle.type_rows.proofs.ordinals.first_bad_removed.Given as goal

abbrev pub invariant-loop-ordinal : goal.invariant-loop-ordinal
invariant-loop-ordinal l = Walked (FailsRemoved l.live l.removed) l.removed l.ordinal-index l.from
