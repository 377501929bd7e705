use Rattle.record_copies.proofs.Shifts.{ShiftedSoFar}
use Rattle.record_copies.proofs.column.Column.shift.Given as goal

abbrev pub invariant-loop-place : goal.invariant-loop-place
invariant-loop-place l = ShiftedSoFar l.self l.initial.words l.words l.fn.run l.less l.more l.place
