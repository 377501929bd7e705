-- The list has the live ordinals that were passed.
use Rattle.consumer_orders.proofs.LiveLists.{AreLiveBelow}
use Rattle.consumer_orders.proofs.live_order.live_list.Given as goal

abbrev pub invariant-loop-ordinal : goal.invariant-loop-ordinal
invariant-loop-ordinal g l = AreLiveBelow (g.R.Rows.table l.rows) l.type_index l.ordinal l.ordinals
