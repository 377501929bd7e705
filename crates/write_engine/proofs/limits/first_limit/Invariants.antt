-- The types that were passed keep their limits, in any states of which this is measured.
use Rattle.row_model.specs.Table.{Table}
use Rattle.row_packing.specs.Measured.{AreMeasured}
use Rattle.write_engine.specs.Agreement.{TablesAgree}
use Rattle.write_engine.proofs.TypesKept.{KeepBelow}
use Rattle.write_engine.proofs.limits.first_limit.Given as goal

abbrev pub invariant-loop-type_index : goal.invariant-loop-type_index
invariant-loop-type_index l = (previous current : Table) → TablesAgree previous current → AreMeasured l.model previous current l.measured → KeepBelow l.model previous current l.type_index
