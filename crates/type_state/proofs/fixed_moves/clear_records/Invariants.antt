use Rattle.std.proofs.Common.{map}
use Rattle.type_state.specs.Differences.{removal}
use Rattle.type_state.proofs.RecordedRows.{Writing}
use Rattle.type_state.proofs.fixed_moves.clear_records.Given as goal

abbrev pub invariant-loop-ordinal : goal.invariant-loop-ordinal
invariant-loop-ordinal l = Writing l.shape l.widths l.fn.first l.first l.places (map removal l.removed) l.ordinal-index
