use Rattle.chain_laws.proofs.PlannedMoves.{goto_arrives}
use Rattle.chain_laws.proofs.laws.chain_goto_arrives.Goals as goal

pub returns : goal.returns
returns c = λ machine next chain version progress holds agree of step. goto_arrives machine next chain version progress agree holds of step
