use Rattle.schema_model.specs.declared.schema.FieldKind.{FieldKind}
use Rattle.object_codec.specs.Sound.{HaveValues, parts_in}
use Rattle.object_codec.specs.Texts.{AreReaches}
use Rattle.object_codec.proofs.sound.first_bad_text.Given as goal

abbrev pub invariant-loop-index : goal.invariant-loop-index
invariant-loop-index l = AreReaches l.area l.spans.reaches.items × HaveValues FieldKind.Text (parts_in l.first l.size l.before l.width l.area) l.places l.index
