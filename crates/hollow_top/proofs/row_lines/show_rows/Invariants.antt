use Rattle.std.proofs.Common.{[], ◌≤◌}
use Rattle.hollow_top.proofs.Walks.{AreShownBefore}
use Rattle.hollow_top.proofs.row_lines.show_rows.Given as goal

abbrev pub invariant-loop-type_index : goal.invariant-loop-type_index
invariant-loop-type_index g l =
    AreShownBefore (g.R.Rows.schemas l.rows) (g.R.Rows.table l.rows) (g.O.Sink.taken l.initial.out, []) l.type_index (g.O.Sink.taken l.out, l.lines.items)
    × (g.O.Sink.faults l.initial.out ≤ g.O.Sink.faults l.out)
