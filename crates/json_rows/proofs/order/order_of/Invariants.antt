use Rattle.json_rows.proofs.Orders.{AreOrdered}
use Rattle.json_rows.proofs.order.order_of.Given as goal

abbrev pub invariant-loop-place : goal.invariant-loop-place
invariant-loop-place l = AreOrdered l.fields l.place l.by_name.entries
