use Rattle.type_state.proofs.FieldBytes.{IsBehind}
use Rattle.type_state.proofs.field_bytes.bytes_of_field.Given as goal

abbrev pub invariant-loop-before : goal.invariant-loop-before
invariant-loop-before l = IsBehind l.words l.lengths l.rest l.before
