use Rattle.answer_laws.proofs.ShownRows.{machine_shown}
use Rattle.answer_laws.proofs.Wholes.{line_whole}
use Rattle.answer_laws.proofs.laws.line_keeps_whole.Goals as goal

pub returns : goal.returns
returns c = record { keeps = line_whole; shown = machine_shown }
