use Rattle.type_rows.specs.Ordinals.{FailsAdded}
use Rattle.type_rows.proofs.Walks.{Walked}
use Rattle.type_rows.proofs.ordinals.first_bad_added.Given as goal

abbrev pub invariant-loop-ordinal : goal.invariant-loop-ordinal
invariant-loop-ordinal l = Walked (FailsAdded l.live l.places l.added) l.added l.ordinal-index l.from
