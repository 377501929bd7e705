-- The list has the ordinals that were passed whose records have the value.
use Rattle.history_orders.specs.Valued.{HasValuedBelow}
use Rattle.history_orders.proofs.key_columns.rows_with_value.Given as goal

abbrev pub invariant-loop-ordinal : goal.invariant-loop-ordinal
invariant-loop-ordinal g l = HasValuedBelow (g.R.Rows.table l.rows) l.type_index l.field l.value l.ordinal l.among.items
