use Rattle.std.proofs.Common.{rules, arith}
use Rattle.type_rows.proofs.Takings.{all_taken, begun, taken_more}
use Rattle.type_rows.proofs.fits.take_values.Goals as goal

pub loop-index-init : goal.loop-index-init
loop-index-init c = begun c.args.values.now c.args.ends.now

pub loop-index-preserved : goal.loop-index-preserved
loop-index-preserved c =
    taken_more c.args.values.now c.args.ends.now c.loop-index.ends c.loop-index.index c.index-values-index.result c.value_bytes.result c.saturating_sub.result c.loop-index.invariant (omega arith) (omega arith) (search rules) (search rules)
    (search rules) (search rules)

pub returns : goal.returns
returns c = all_taken c.args.values.now c.args.ends.now c.loop-index.ends c.loop-index.index c.loop-index.invariant (omega arith)
