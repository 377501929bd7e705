use Rattle.write_engine.proofs.Changes.{ChangedBelow}
use Rattle.write_engine.proofs.states.changed_types.Given as goal

abbrev pub invariant-loop-type_index : goal.invariant-loop-type_index
invariant-loop-type_index l = ChangedBelow l.maps l.type_index l.changed
