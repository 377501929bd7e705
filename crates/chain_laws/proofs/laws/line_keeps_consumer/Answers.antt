use Rattle.chain_laws.proofs.ConsumerLines.{line_keeps_both}
use Rattle.chain_laws.proofs.laws.line_keeps_consumer.Goals as goal

pub returns : goal.returns
returns c = line_keeps_both
