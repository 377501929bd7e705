use Rattle.chain_laws.proofs.StoppedChains.{after_keeps, between_keeps, within_keeps}
use Rattle.chain_laws.proofs.laws.stopped_script_keeps_chain.Goals as goal

pub returns : goal.returns
returns c = record {
  between = λ first store lines text chain kept is. between_keeps first lines text store chain kept is;
  within = λ first store lines text chain kept is. within_keeps first lines text store chain kept is;
  behind = λ first store lines text chain kept is. after_keeps first lines text store chain kept is;
}
