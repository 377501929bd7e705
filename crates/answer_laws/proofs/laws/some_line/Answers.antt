use Rattle.answer_laws.proofs.Lines.{line_answered}
use Rattle.answer_laws.proofs.laws.some_line.Goals as goal

pub returns : goal.returns
returns c = line_answered
