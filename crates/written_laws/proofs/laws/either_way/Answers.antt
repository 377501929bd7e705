use Rattle.written_laws.proofs.StatesBack.{states_back}
use Rattle.written_laws.proofs.laws.either_way.Goals as goal

pub returns : goal.returns
returns c = states_back
