use Rattle.write_engine.proofs.ClosedStates.{next_closed}
use Rattle.write_engine.proofs.laws.next_is_closed.Goals as goal

pub returns : goal.returns
returns c = next_closed
