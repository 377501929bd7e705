use Rattle.std.proofs.Common.{arith}
use Rattle.type_rows.proofs.FreeRecords.{free_more}
use Rattle.type_rows.proofs.records.are_free.Goals as goal

pub loop-index-preserved : goal.loop-index-preserved
loop-index-preserved c =
    free_more c.args.fields.now c.args.widths.now c.loop-index.index c.index-fields-index.result (omega (arith, c.loop-index-test.true)) c.index-fields-index.is c.loop-index.invariant
    (c.is_field_free.ensures c.if-not-is_field_free.false)

pub returns : goal.returns
returns c = λ test index field below at. c.loop-index.invariant index field (omega (arith, below, c.loop-index-test.false)) at
