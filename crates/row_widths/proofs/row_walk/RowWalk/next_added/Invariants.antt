use Rattle.std.proofs.Common.{◌≡◌, ◌^◌, ◌-◌, true}
use Rattle.row_model.specs.BothStates.{rows_from, rows_added}
use Rattle.row_widths.proofs.row_walk.RowWalk.next_added.Given as goal

abbrev pub invariant-loop-ordinal : goal.invariant-loop-ordinal
invariant-loop-ordinal g l = record {
  behind : l.self.in_new ≡ true;
  left : rows_from l.initial.self.ordinal (rows_added (g.A.Rows.table l.old) (g.B.Rows.table l.new) l.type_index)
      ≡ rows_from l.self.ordinal (rows_added (g.A.Rows.table l.old) (g.B.Rows.table l.new) l.type_index);
}

abbrev pub decreases-loop-ordinal : goal.decreases-loop-ordinal
decreases-loop-ordinal g l = 2 ^ 32 - l.self.ordinal
