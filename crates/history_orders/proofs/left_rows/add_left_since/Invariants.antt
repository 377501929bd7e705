-- Those of the steps that were passed are listed, behind those that were there.
use Rattle.history_orders.specs.Left.{HasAll, HasLeftIn}
use Rattle.history_orders.proofs.left_rows.add_left_since.Given as goal

abbrev pub invariant-loop-place : goal.invariant-loop-place
invariant-loop-place l = HasLeftIn l.history.steps l.place l.type_index l.paths l.key l.among.items × HasAll l.fn.among.items l.among.items
