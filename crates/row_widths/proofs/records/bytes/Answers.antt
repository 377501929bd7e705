use Rattle.std.proofs.Common.{◌∙◌, arith}
use Rattle.row_widths.proofs.LiveBytes.{counted_more, counted_all}
use Rattle.row_widths.proofs.records.bytes.Goals as goal

pub loop-ordinal-preserved : goal.loop-ordinal-preserved
loop-ordinal-preserved g c =
    counted_more (g.R.Rows.table c.args.rows.now) c.args.type_index c.loop-ordinal.ordinal c.loop-ordinal.bytes c.saturating_add-bytes.result c.in_ok-bytes_under.field-0 c.loop-ordinal.invariant
    c.in_ok-bytes_under.ensures c.saturating_add-bytes.ensures

pub returns : goal.returns
returns g c =
    c.min.ensures ∙ counted_all (g.R.Rows.table c.args.rows.now) c.args.type_index c.loop-ordinal.ordinal c.bound-ordinal-end.result c.loop-ordinal.bytes c.loop-ordinal.invariant c.bound-ordinal-end.ensures (omega arith)
