use Rattle.type_state.proofs.StayingRows.{fit_more}
use Rattle.type_state.proofs.staying.run_fits.Goals as goal

pub loop-ordinal-preserved : goal.loop-ordinal-preserved
loop-ordinal-preserved c =
    fit_more c.args.rows.now.rows c.args.field c.args.width c.args.from c.loop-ordinal.ordinal c.loop-ordinal.invariant (c.fits_under.ensures c.if-not-fits_under.false)
