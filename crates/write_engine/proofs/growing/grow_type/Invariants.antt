use Rattle.write_engine.specs.Grown.{seen_of}
use Rattle.write_engine.specs.RestoredRows.{HasRowsBelow}
use Rattle.write_engine.proofs.growing.grow_type.Given as goal

abbrev pub invariant-loop-ordinal : goal.invariant-loop-ordinal
invariant-loop-ordinal l = HasRowsBelow (seen_of l.model l.grown l.maps) l.type_index l.ordinal l.map
