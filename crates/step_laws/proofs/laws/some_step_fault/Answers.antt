use Rattle.step_laws.proofs.SettledSteps.{step_or_fault}
use Rattle.step_laws.proofs.laws.some_step_fault.Goals as goal

pub returns : goal.returns
returns c = step_or_fault
