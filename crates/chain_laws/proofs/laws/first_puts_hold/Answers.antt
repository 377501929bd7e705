use Rattle.chain_laws.proofs.StoppedChains.{cycle_adds}
use Rattle.chain_laws.proofs.laws.first_puts_hold.Goals as goal

pub returns : goal.returns
returns c = λ machine asked puts store chain is_version fits are first kept over. cycle_adds machine chain kept over asked puts store is_version fits are first
