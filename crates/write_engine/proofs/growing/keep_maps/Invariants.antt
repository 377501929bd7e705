use Rattle.write_engine.specs.Grown.{AreKept}
use Rattle.write_engine.proofs.growing.keep_maps.Given as goal

abbrev pub invariant-loop-type_index : goal.invariant-loop-type_index
invariant-loop-type_index l = AreKept l.model l.grown l.fn.maps l.maps l.fresh l.type_index
