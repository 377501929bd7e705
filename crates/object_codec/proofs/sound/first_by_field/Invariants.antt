use Rattle.object_codec.proofs.Soundness.{FoundSoFar}
use Rattle.object_codec.proofs.sound.first_by_field.Given as goal

abbrev pub invariant-loop-index : goal.invariant-loop-index
invariant-loop-index l = FoundSoFar l.fields l.widths l.first l.areas l.places l.left l.index l.before l.found
