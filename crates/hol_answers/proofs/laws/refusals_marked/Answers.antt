use Rattle.hol_answers.proofs.FirstNames.{marked}
use Rattle.hol_answers.proofs.laws.refusals_marked.Goals as goal

pub returns : goal.returns
returns c = marked
