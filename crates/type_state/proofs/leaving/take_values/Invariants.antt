use Rattle.type_state.proofs.LeavingRows.{TakingBy}
use Rattle.type_state.proofs.leaving.take_values.Given as goal

abbrev pub invariant-loop-field : goal.invariant-loop-field
invariant-loop-field l = TakingBy l.columns l.place l.fn.ends l.ends l.bytes l.field
