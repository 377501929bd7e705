use Rattle.written_laws.proofs.GrownRows.{state_grown}
use Rattle.written_laws.proofs.laws.state_grown.Goals as goal

pub returns : goal.returns
returns c = state_grown
