use Rattle.hollow_machine.proofs.Scripts.{join}
use Rattle.hollow_machine.proofs.laws.scripts_join.Goals as goal

pub returns : goal.returns
returns c = join
