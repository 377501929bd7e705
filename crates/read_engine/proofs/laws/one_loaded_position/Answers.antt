use Rattle.read_engine.proofs.LoadedOnce.{loaded_once}
use Rattle.read_engine.proofs.laws.one_loaded_position.Goals as goal

pub returns : goal.returns
returns c = loaded_once c.one_snapshot.ensures
