use Rattle.chain_laws.proofs.StoppedChains.{make_stop_keeps}
use Rattle.chain_laws.proofs.laws.stopped_make_keeps_chain.Goals as goal

pub returns : goal.returns
returns c = λ first store seed rows cycles chain small few kept is. make_stop_keeps c.films_model.ensures first store seed rows cycles chain small few kept is
