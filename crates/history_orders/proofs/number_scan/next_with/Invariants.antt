-- The records that were passed have other numbers.
use Rattle.history_orders.specs.Scanned.{LacksNumber}
use Rattle.history_orders.proofs.number_scan.next_with.Given as goal

abbrev pub invariant-loop-place : goal.invariant-loop-place
invariant-loop-place l = LacksNumber l.fn.column l.number l.from l.place
