use Rattle.std.proofs.Common.{arith, refl}
use Rattle.type_state.proofs.Changes.{offsets_more}
use Rattle.type_state.proofs.change.hold_offsets.Goals as goal

pub loop-index-preserved : goal.loop-index-preserved
loop-index-preserved c =
    offsets_more c.args.fields.now c.args.widths.now c.args.ends.now c.loop-index.index c.index-fields-index.result (omega (arith, c.loop-index-test.true)) c.index-fields-index.is c.loop-index.invariant (c.if-not-holds_end.ensures.0 refl)

pub returns : goal.returns
returns c = λ test index field below at. c.loop-index.invariant index field (omega (arith, below, c.loop-index-test.false)) at
