use Rattle.std.proofs.Common.{take}
use Rattle.std.specs.Prelude.{All}
use Rattle.closed_rows.specs.Dangling.{IsClosedAt}
use Rattle.state_moves.proofs.closing.are_closed.Given as goal

abbrev pub invariant-loop-ordinal : goal.invariant-loop-ordinal
invariant-loop-ordinal l = All (IsClosedAt l.rows.schemas l.rows.table l.type_index) (take l.ordinal-index l.ordinals)
