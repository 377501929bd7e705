-- The ordinals of the rows that were passed and may have the key are listed, behind those that were there.
use Rattle.history_orders.specs.Left.{HasAll}
use Rattle.history_orders.proofs.Leaving.{HasLeftBelow}
use Rattle.history_orders.proofs.left_rows.add_left.Given as goal

abbrev pub invariant-loop-place : goal.invariant-loop-place
invariant-loop-place l = HasLeftBelow l.paths l.key l.part l.place l.among.items × HasAll l.fn.among.items l.among.items
