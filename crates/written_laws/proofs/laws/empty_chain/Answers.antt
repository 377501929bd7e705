use Rattle.written_laws.proofs.EmptyChain.{holds_none}
use Rattle.written_laws.proofs.laws.empty_chain.Goals as goal

pub returns : goal.returns
returns c = holds_none
