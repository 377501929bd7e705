use Rattle.type_rows.proofs.FirstPlaces.{SpellBefore}
use Rattle.type_rows.proofs.runs.test_sets.Given as goal

abbrev pub invariant-loop-ordinal : goal.invariant-loop-ordinal
invariant-loop-ordinal l = SpellBefore l.shape l.section l.live l.ordinal-index
