use Rattle.list_codec.specs.Elements.{elements_of}
use Rattle.list_codec.proofs.ElementRuns.{ReadSoFar}
use Rattle.list_codec.proofs.elements.Elements.ordinals.Given as goal

abbrev pub invariant-loop-index : goal.invariant-loop-index
invariant-loop-index l = ReadSoFar (elements_of l.self) l.index l.ordinals
