use Rattle.hol_answers.proofs.FirstNames.{told}
use Rattle.hol_answers.proofs.laws.refusals_told.Goals as goal

pub returns : goal.returns
returns c = told
