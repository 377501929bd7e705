use Rattle.type_state.proofs.TightPlaces.{AreRecordsTight}
use Rattle.type_state.proofs.tight.are_records_tight.Given as goal

abbrev pub invariant-loop-place : goal.invariant-loop-place
invariant-loop-place l = AreRecordsTight l.shape l.section l.place
