-- The set has the live ordinals that were passed.
use Rattle.row_packing.proofs.LiveRows.{IsLiveBelow}
use Rattle.row_packing.proofs.live.live_ordinals.Given as goal

abbrev pub invariant-loop-ordinal : goal.invariant-loop-ordinal
invariant-loop-ordinal g l = IsLiveBelow (g.R.Rows.table l.rows) l.type_index l.ordinal l.set
