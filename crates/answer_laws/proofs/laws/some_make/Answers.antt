use Rattle.answer_laws.proofs.Making.{make_answered}
use Rattle.answer_laws.proofs.laws.some_make.Goals as goal

pub returns : goal.returns
returns c = make_answered
