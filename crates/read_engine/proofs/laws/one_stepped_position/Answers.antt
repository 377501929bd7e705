use Rattle.read_engine.proofs.SteppedOnce.{stepped_once}
use Rattle.read_engine.proofs.laws.one_stepped_position.Goals as goal

pub returns : goal.returns
returns c = stepped_once
