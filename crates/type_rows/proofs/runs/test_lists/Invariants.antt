use Rattle.type_rows.specs.RunItems.{AreListsOf}
use Rattle.type_rows.proofs.FirstPlaces.{SpellBefore}
use Rattle.type_rows.proofs.runs.test_lists.Given as goal

abbrev pub invariant-loop-ordinal : goal.invariant-loop-ordinal
invariant-loop-ordinal l = SpellBefore l.shape l.section l.live l.ordinal-index × AreListsOf l.section l.lists.rows
