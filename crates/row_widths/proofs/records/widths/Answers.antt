use Rattle.std.proofs.Common.{arith}
use Rattle.row_model.specs.BothStates.{rows_of_both}
use Rattle.row_widths.proofs.RecordSpreads.{spread_is, widths_more}
use Rattle.row_widths.proofs.records.widths.Goals as goal

pub field_width-requires : goal.field_width-requires
field_width-requires g c =
    let few = (spread_is _ _ c.in_ok-spreads.spreads.items c.loop-index.index c.index-spread.result.now c.in_ok-spreads.ensures c.requires (omega arith) c.index-spread.ensures).few in
    omega (arith, few)

pub loop-index-preserved : goal.loop-index-preserved
loop-index-preserved g c =
    let rows = rows_of_both (g.A.Rows.table c.args.old.now) (g.B.Rows.table c.args.new.now) c.args.type_index in
    let of = spread_is _ rows c.in_ok-spreads.spreads.items c.loop-index.index c.index-spread.result.now c.in_ok-spreads.ensures c.requires (omega arith) c.index-spread.ensures in
    rw c.in_ok-push.ensures.ok
    (widths_more c.fields_of-fields.result.now rows c.loop-index.index c.index-fields-index.result c.loop-index.widths c.field_width.result c.loop-index.invariant (omega arith) c.index-fields-index.is
    (c.field_width.ensures _ of.bits of.bytes))
