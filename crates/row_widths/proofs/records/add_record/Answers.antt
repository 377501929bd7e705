use Rattle.std.proofs.Common.{arith}
use Rattle.row_widths.proofs.RecordSpreads.{added_more, added_all}
use Rattle.row_widths.proofs.records.add_record.Goals as goal

pub loop-index-preserved : goal.loop-index-preserved
loop-index-preserved c =
    let within = c.min-index-end.ensures in
    let spreads = c.loop-index.auto.spreads in
    added_more c.args.values.now c.args.spreads.now c.loop-index.spreads c.loop-index.index c.index-values-index.result c.with.result c.loop-index.invariant (omega arith) (omega arith)
    c.index-values-index.is c.with.ensures.bits c.with.ensures.bytes

pub returns : goal.returns
returns c =
    let within = c.min-index-end.ensures in
    added_all c.args.values.now c.args.spreads.now c.loop-index.spreads c.loop-index.index c.loop-index.invariant (omega arith) c.requires
