use Rattle.type_state.proofs.FieldBytes.{AreCut}
use Rattle.type_state.proofs.field_bytes.bytes_of_fields.Given as goal

abbrev pub invariant-loop-index : goal.invariant-loop-index
invariant-loop-index l = AreCut l.words l.lengths l.rest l.areas.items l.index
