use Rattle.write_engine.specs.RestoredRows.{HasTypesBelow}
use Rattle.write_engine.proofs.restoring.restore_states.Given as goal

abbrev pub invariant-loop-type_index : goal.invariant-loop-type_index
invariant-loop-type_index g l = HasTypesBelow (g.R.Rows.table l.rows) l.type_index l.maps.items
