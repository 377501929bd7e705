use Rattle.list_codec.specs.Elements.{AreOrdinals}
use Rattle.list_codec.proofs.faults.are_ordinals_by.Given as goal

abbrev pub invariant-loop-index : goal.invariant-loop-index
invariant-loop-index l = AreOrdinals l.words l.width l.start l.index
