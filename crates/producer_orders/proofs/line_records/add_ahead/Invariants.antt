use Rattle.producer_orders.proofs.AheadRecords.{AreBeingAdded}
use Rattle.producer_orders.proofs.line_records.add_ahead.Given as goal

abbrev pub invariant-loop-place : goal.invariant-loop-place
invariant-loop-place l = AreBeingAdded l.type_index l.initial.reader l.reader l.initial.producer l.producer l.full_before l.full l.from l.place
