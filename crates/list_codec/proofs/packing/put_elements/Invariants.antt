use Rattle.list_codec.proofs.Written.{WrittenSoFar}
use Rattle.list_codec.proofs.packing.put_elements.Given as goal

abbrev pub invariant-loop-element : goal.invariant-loop-element
invariant-loop-element l = WrittenSoFar l.initial.words l.words l.width l.start l.element-index l.at l.elements
