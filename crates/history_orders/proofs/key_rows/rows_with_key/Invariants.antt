-- The list has the ordinals that were passed whose rows have the key.
use Rattle.history_orders.proofs.Matching.{AreMatchesBelow}
use Rattle.history_orders.proofs.key_rows.rows_with_key.Given as goal

abbrev pub invariant-loop-ordinal : goal.invariant-loop-ordinal
invariant-loop-ordinal g l = AreMatchesBelow (g.R.Rows.schemas l.rows) (g.R.Rows.table l.rows) l.type_index l.paths l.key l.ordinal l.ordinals
