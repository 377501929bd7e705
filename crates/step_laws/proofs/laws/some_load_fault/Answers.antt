use Rattle.step_laws.proofs.SettledSteps.{load_or_fault}
use Rattle.step_laws.proofs.laws.some_load_fault.Goals as goal

pub returns : goal.returns
returns c = load_or_fault
