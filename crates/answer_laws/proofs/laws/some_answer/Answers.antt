use Rattle.answer_laws.proofs.EachKind.{each_answered, each_shown}
use Rattle.answer_laws.proofs.laws.some_answer.Goals as goal

pub returns : goal.returns
returns c = record { told = each_answered; shown = each_shown }
