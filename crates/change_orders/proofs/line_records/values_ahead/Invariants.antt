use Rattle.change_orders.proofs.LineRecords.{AreTaken}
use Rattle.change_orders.proofs.line_records.values_ahead.Given as goal

abbrev pub invariant-loop : goal.invariant-loop
invariant-loop l = AreTaken l.initial.reader l.reader l.values.items
