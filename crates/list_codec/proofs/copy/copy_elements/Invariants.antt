use Rattle.list_codec.specs.Elements.{elements_of}
use Rattle.list_codec.proofs.Written.{WrittenSoFar}
use Rattle.list_codec.proofs.copy.copy_elements.Given as goal

abbrev pub invariant-loop-index : goal.invariant-loop-index
invariant-loop-index l = WrittenSoFar l.initial.words l.words l.width l.start l.index l.at (elements_of l.from)
