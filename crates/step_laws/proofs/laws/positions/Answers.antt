use Rattle.step_laws.proofs.Positions.{load_position, step_position}
use Rattle.step_laws.proofs.laws.positions.Goals as goal

pub returns : goal.returns
returns c = record { load = load_position; step = step_position }
