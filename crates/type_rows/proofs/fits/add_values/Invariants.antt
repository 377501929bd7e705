use Rattle.type_rows.proofs.Offsets.{Progress}
use Rattle.type_rows.proofs.fits.add_values.Given as goal

abbrev pub invariant-loop-index : goal.invariant-loop-index
invariant-loop-index l = Progress l.fields l.widths l.values l.fn.ends l.ends l.index
