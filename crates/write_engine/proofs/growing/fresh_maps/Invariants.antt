use Rattle.write_engine.specs.Grown.{AreFresh}
use Rattle.write_engine.proofs.growing.fresh_maps.Given as goal

abbrev pub invariant-loop-type_index : goal.invariant-loop-type_index
invariant-loop-type_index l = AreFresh l.model l.grown l.maps l.fresh.items l.type_index
