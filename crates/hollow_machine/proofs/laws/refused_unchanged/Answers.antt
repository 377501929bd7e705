use Rattle.hollow_machine.proofs.Scripts.{unchanged}
use Rattle.hollow_machine.proofs.laws.refused_unchanged.Goals as goal

pub returns : goal.returns
returns c = unchanged
