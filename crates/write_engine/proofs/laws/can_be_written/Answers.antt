use Rattle.write_engine.proofs.TypesKept.{writable, writable_back}
use Rattle.write_engine.proofs.laws.can_be_written.Goals as goal

pub returns : goal.returns
returns c = record { forth = writable; back = writable_back }
