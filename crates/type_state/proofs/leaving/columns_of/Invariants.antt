use Rattle.type_state.specs.Leaving.{AreColumns}
use Rattle.type_state.proofs.leaving.columns_of.Given as goal

abbrev pub invariant-loop-field : goal.invariant-loop-field
invariant-loop-field l = AreColumns l.rows.rows l.columns.items l.field
