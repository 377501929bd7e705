use Rattle.state_moves.proofs.SettledMoves.{settles_state}
use Rattle.state_moves.proofs.laws.some_fault.Goals as goal

pub returns : goal.returns
returns c = settles_state
