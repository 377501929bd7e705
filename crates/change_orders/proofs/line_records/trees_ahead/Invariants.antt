use Rattle.change_orders.proofs.LineRecords.{AreBeingRead}
use Rattle.change_orders.proofs.line_records.trees_ahead.Given as goal

abbrev pub invariant-loop-place : goal.invariant-loop-place
invariant-loop-place l = AreBeingRead l.model l.type_index l.initial.reader l.reader l.initial.found l.found l.place
