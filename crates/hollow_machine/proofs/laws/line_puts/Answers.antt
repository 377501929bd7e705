use Rattle.hollow_machine.proofs.LinePuts.{line_puts}
use Rattle.hollow_machine.proofs.laws.line_puts.Goals as goal

pub returns : goal.returns
returns c = line_puts
