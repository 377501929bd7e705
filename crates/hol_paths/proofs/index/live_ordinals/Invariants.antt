use Rattle.hol_paths.proofs.Beginning.{AreBelow}
use Rattle.hol_paths.proofs.index.live_ordinals.Given as goal

abbrev pub invariant-loop-ordinal : goal.invariant-loop-ordinal
invariant-loop-ordinal g l = AreBelow (g.R.Rows.table l.rows) l.type_index l.ordinal l.live
