use Rattle.view_laws.proofs.SeenSteps.{step_back, step_forth}
use Rattle.view_laws.proofs.laws.seen_steps.Goals as goal

pub returns : goal.returns
returns c = record { forth = step_forth; back = step_back }
