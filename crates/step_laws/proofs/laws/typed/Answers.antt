use Rattle.step_laws.proofs.Typing.{load_typed, position_typed, step_typed}
use Rattle.step_laws.proofs.laws.typed.Goals as goal

pub returns : goal.returns
returns c = record { position = position_typed; load = load_typed; step = step_typed }
