use Rattle.std.proofs.Common.{◌≡◌, length}
use Rattle.row_model.specs.Table.{RowMap}
use Rattle.type_state.specs.Counted.{AreFree}
use Rattle.type_state.specs.Differences.{added_of}
use Rattle.type_state.proofs.CountedRows.{Counting, Fitting}
use Rattle.type_state.proofs.counting.add_rows.Given as goal

abbrev pub invariant-loop-place : goal.invariant-loop-place
invariant-loop-place l = record {
  counted : (rows : RowMap) → AreFree rows l.differences.patch.now.added → Counting rows (added_of l.differences) l.fn.totals l.totals l.place;
  fits : Fitting l.differences.schema.now.shape l.differences.patch.now.widths (added_of l.differences) l.place;
  long : length l.totals.ends.offsets.items ≡ length l.fn.totals.ends.offsets.items;
}
