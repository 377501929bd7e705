use Rattle.type_state.specs.Differences.{rows_with}
use Rattle.type_state.proofs.Layouts.{Laid}
use Rattle.type_state.proofs.held.lay_out.Given as goal

abbrev pub invariant-loop-ordinal : goal.invariant-loop-ordinal
invariant-loop-ordinal l = Laid l.next.differences.schema.now.shape l.next.outline.widths (rows_with l.rows.rows l.next.differences) l.ordinal l.ends.offsets.items l.ends.items l.bytes
