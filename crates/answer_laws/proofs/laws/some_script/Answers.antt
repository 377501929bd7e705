use Rattle.answer_laws.proofs.Scripts.{script_answered}
use Rattle.answer_laws.proofs.laws.some_script.Goals as goal

pub returns : goal.returns
returns c = script_answered
