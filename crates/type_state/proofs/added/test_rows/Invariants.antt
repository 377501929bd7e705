use Rattle.type_state.proofs.AddedRows.{SpellBelow}
use Rattle.type_state.proofs.added.test_rows.Given as goal

abbrev pub invariant-loop-place : goal.invariant-loop-place
invariant-loop-place l = SpellBelow l.schema.shape l.patch l.place
