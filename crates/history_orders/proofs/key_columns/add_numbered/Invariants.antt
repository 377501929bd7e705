-- The list has the ordinals that were passed whose records have the number.
use Rattle.std.proofs.Common.{◌-◌}
use Rattle.history_orders.specs.Scanned.{HasNumbered}
use Rattle.history_orders.proofs.key_columns.add_numbered.Given as goal

abbrev pub decreases-loop-next : goal.decreases-loop-next
decreases-loop-next g l = l.end - l.next

abbrev pub invariant-loop-next : goal.invariant-loop-next
invariant-loop-next g l = HasNumbered (g.R.Rows.table l.rows) l.type_index l.column l.number l.next l.among.items
