use Rattle.std.proofs.Common.{map, refl, arith}
use Rattle.type_state.specs.Differences.{removal}
use Rattle.type_state.proofs.StayingRows.{stay_all, stay_marked}
use Rattle.type_state.proofs.staying.column_fits.Goals as goal

pub loop-ordinal-preserved : goal.loop-ordinal-preserved
loop-ordinal-preserved c =
    stay_marked c.args.rows.now.rows c.args.field c.args.width c.args.removed.now c.loop-ordinal.from c.saturating_add-from.result c.loop-ordinal.ordinal-index _ c.loop-ordinal.invariant
    (c.run_fits.ensures c.if-not-run_fits.false) refl (omega arith) (omega (arith, c.saturating_add-from.ensures))

pub returns : goal.returns
returns c = λ t. stay_all c.args.rows.now.rows c.args.field c.args.width (map removal c.args.removed.now) c.loop-ordinal.from c.bound.result c.bound.ensures c.loop-ordinal.invariant (c.run_fits-2.ensures t)
