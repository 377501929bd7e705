-- The rows that were passed are shown, within the budget.
use Rattle.consumer_orders.proofs.PastRows.{HasShown}
use Rattle.consumer_orders.proofs.past_order.show_past.Given as goal

abbrev pub invariant-loop-ordinal : goal.invariant-loop-ordinal
invariant-loop-ordinal g l = HasShown (g.R.Rows.schemas l.rows) (g.R.Rows.table l.rows) l.type_index l.gone l.ordinal-index l.budget l.entries
