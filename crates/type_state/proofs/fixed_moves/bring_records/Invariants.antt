use Rattle.type_state.specs.Differences.{added_of}
use Rattle.type_state.proofs.RecordedRows.{Writing}
use Rattle.type_state.proofs.fixed_moves.bring_records.Given as goal

abbrev pub invariant-loop-place : goal.invariant-loop-place
invariant-loop-place l = Writing l.differences.schema.now.shape l.widths l.fn.first l.first l.places (added_of l.differences) l.place
