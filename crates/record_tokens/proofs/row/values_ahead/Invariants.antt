use Rattle.std.proofs.Common.{length}
use Rattle.record_tokens.proofs.RowsTaken.{AreBeingStored}
use Rattle.record_tokens.proofs.row.values_ahead.Given as goal

abbrev pub invariant-members : goal.invariant-members
invariant-members l = AreBeingStored l.nest l.fields l.initial.reader l.reader l.slots.items

abbrev pub decreases-members : goal.decreases-members
decreases-members l = length l.reader
