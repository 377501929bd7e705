use Rattle.type_rows.proofs.Columns.{ColumnSummed}
use Rattle.type_rows.proofs.records.column_length.Given as goal

abbrev pub invariant-loop-ordinal : goal.invariant-loop-ordinal
invariant-loop-ordinal l = ColumnSummed l.shape l.section l.fn.index l.ordinal-index l.length
