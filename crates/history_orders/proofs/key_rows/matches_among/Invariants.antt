-- The list has the ordinals that were passed whose rows have the key.
use Rattle.history_orders.proofs.Among.{AreMatchesOf}
use Rattle.history_orders.proofs.key_rows.matches_among.Given as goal

abbrev pub invariant-loop-ordinal : goal.invariant-loop-ordinal
invariant-loop-ordinal g l = AreMatchesOf (g.R.Rows.schemas l.rows) (g.R.Rows.table l.rows) l.type_index l.paths l.key l.among l.ordinal-index l.ordinals
