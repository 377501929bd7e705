use Rattle.write_engine.specs.RestoredRows.{HasRowsBelow}
use Rattle.write_engine.proofs.restoring.restore_type.Given as goal

abbrev pub invariant-loop-ordinal : goal.invariant-loop-ordinal
invariant-loop-ordinal g l = HasRowsBelow (g.R.Rows.table l.rows) l.type_index l.ordinal l.map
