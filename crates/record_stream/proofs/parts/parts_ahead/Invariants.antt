use Rattle.std.proofs.Common.{length}
use Rattle.record_stream.specs.Parts.{HaveFound}
use Rattle.record_stream.proofs.parts.parts_ahead.Given as goal

abbrev pub invariant-members : goal.invariant-members
invariant-members l = HaveFound l.holder l.initial.reader l.reader l.found

abbrev pub decreases-members : goal.decreases-members
decreases-members l = length l.reader
