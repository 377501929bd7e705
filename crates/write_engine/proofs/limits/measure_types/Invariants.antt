-- The types that were passed are measured.
use Rattle.write_engine.proofs.TypesKept.{MeasuredBelow}
use Rattle.write_engine.specs.Production.{current_of, previous_of}
use Rattle.write_engine.proofs.limits.measure_types.Given as goal

abbrev pub invariant-loop-type_index : goal.invariant-loop-type_index
invariant-loop-type_index l = MeasuredBelow l.model (previous_of l.maps) (current_of l.maps) l.type_index l.measured
