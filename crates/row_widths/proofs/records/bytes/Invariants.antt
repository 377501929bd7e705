use Rattle.row_widths.proofs.LiveBytes.{IsCounted}
use Rattle.row_widths.proofs.records.bytes.Given as goal

abbrev pub invariant-loop-ordinal : goal.invariant-loop-ordinal
invariant-loop-ordinal g l = IsCounted (g.R.Rows.table l.rows) l.type_index l.ordinal l.bytes
