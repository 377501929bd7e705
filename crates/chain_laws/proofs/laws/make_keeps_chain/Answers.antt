use Rattle.chain_laws.proofs.MadeChains.{makes_keep}
use Rattle.chain_laws.proofs.laws.make_keeps_chain.Goals as goal

pub returns : goal.returns
returns c = makes_keep c.films_model.ensures
