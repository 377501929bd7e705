use Rattle.std.proofs.Common.{◌≤◌}
use Rattle.hollow_top.proofs.Walks.{AreShownBelow}
use Rattle.hollow_top.proofs.row_lines.show_type.Given as goal

abbrev pub invariant-loop-ordinal : goal.invariant-loop-ordinal
invariant-loop-ordinal g l =
    AreShownBelow (g.R.Rows.schemas l.rows) (g.R.Rows.table l.rows) l.type_index (g.O.Sink.taken l.initial.out, l.initial.pending.items) l.ordinal (g.O.Sink.taken l.out, l.pending.items)
    × (g.O.Sink.faults l.initial.out ≤ g.O.Sink.faults l.out)
