use Rattle.answer_laws.proofs.LimitedRows.{line_keeps_limited}
use Rattle.answer_laws.proofs.ShownRows.{machine_storable}
use Rattle.answer_laws.proofs.laws.line_keeps_limits.Goals as goal

pub returns : goal.returns
returns c = record { keeps = line_keeps_limited; storable = machine_storable }
