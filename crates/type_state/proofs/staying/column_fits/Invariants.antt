use Rattle.std.proofs.Common.{map}
use Rattle.type_state.specs.Differences.{removal}
use Rattle.type_state.proofs.StayingRows.{StayUpTo}
use Rattle.type_state.proofs.staying.column_fits.Given as goal

abbrev pub invariant-loop-ordinal : goal.invariant-loop-ordinal
invariant-loop-ordinal l = StayUpTo l.rows.rows l.field l.width (map removal l.removed) l.from
