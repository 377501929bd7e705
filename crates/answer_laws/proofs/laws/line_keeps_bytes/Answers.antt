use Rattle.answer_laws.proofs.RangedRows.{line_keeps_rows, machine_back, machine_ranged}
use Rattle.answer_laws.proofs.laws.line_keeps_bytes.Goals as goal

pub returns : goal.returns
returns c = record { keeps = line_keeps_rows; ranges = machine_ranged; reads = machine_back }
