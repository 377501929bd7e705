use Rattle.std.proofs.Common.{map}
use Rattle.type_state.specs.Differences.{removal}
use Rattle.type_state.proofs.CountedRows.{Counting}
use Rattle.type_state.proofs.counting.take_rows.Given as goal

abbrev pub invariant-loop-ordinal : goal.invariant-loop-ordinal
invariant-loop-ordinal l = Counting l.rows.rows (map removal l.removed) l.fn.totals l.totals l.ordinal-index
