use Rattle.hol_answers.proofs.FirstNames.{apart}
use Rattle.hol_answers.proofs.laws.refusals_apart.Goals as goal

pub returns : goal.returns
returns c = apart
