use Rattle.object_codec.proofs.Fields.{Progress}
use Rattle.object_codec.proofs.record.read_fields.Given as goal

abbrev pub invariant-loop-index : goal.invariant-loop-index
invariant-loop-index g l = Progress l.fields l.widths (g.P.Parts.first_words l.parts) (g.P.Parts.area_bytes l.parts) l.place l.index l.before l.values.items
