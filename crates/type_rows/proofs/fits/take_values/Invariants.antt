use Rattle.type_rows.proofs.Takings.{Taking}
use Rattle.type_rows.proofs.fits.take_values.Given as goal

abbrev pub invariant-loop-index : goal.invariant-loop-index
invariant-loop-index l = Taking l.values l.fn.ends l.ends l.index
