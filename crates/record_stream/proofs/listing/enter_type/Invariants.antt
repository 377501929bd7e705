use Rattle.record_stream.proofs.Entered.{ArePast}
use Rattle.record_stream.proofs.listing.enter_type.Given as goal

abbrev pub invariant-loop : goal.invariant-loop
invariant-loop l = ArePast l.initial.reader l.reader l.place l.counter
