use Rattle.answer_laws.proofs.Values.{made_value}
use Rattle.answer_laws.proofs.laws.some_value.Goals as goal

pub returns : goal.returns
returns c = made_value
