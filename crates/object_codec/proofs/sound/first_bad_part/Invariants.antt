use Rattle.object_codec.specs.Sound.{HaveValues, parts_in}
use Rattle.object_codec.proofs.sound.first_bad_part.Given as goal

abbrev pub invariant-loop-index : goal.invariant-loop-index
invariant-loop-index l = HaveValues l.kind (parts_in l.first l.size l.before l.width l.area) l.places l.index
