use Rattle.std.proofs.Common.{length}
use Rattle.record_stream.proofs.Entered.{IsStillAdded}
use Rattle.record_stream.proofs.opening.enter_types.Given as goal

abbrev pub invariant-members : goal.invariant-members
invariant-members l = IsStillAdded l.sought l.initial.reader l.reader

abbrev pub decreases-members : goal.decreases-members
decreases-members l = length l.reader
