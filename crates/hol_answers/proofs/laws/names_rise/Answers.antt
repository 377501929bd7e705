use Rattle.hol_answers.proofs.Rising.{rises}
use Rattle.hol_answers.proofs.laws.names_rise.Goals as goal

pub returns : goal.returns
returns c = rises
