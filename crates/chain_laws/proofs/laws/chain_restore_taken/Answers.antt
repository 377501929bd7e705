use Rattle.chain_laws.proofs.RestoredChains.{restore_only, restore_taken}
use Rattle.chain_laws.proofs.laws.chain_restore_taken.Goals as goal

pub returns : goal.returns
returns c = record {
  taken = λ machine chain version holds last whole. restore_taken machine chain holds version last whole;
  only = λ machine next chain version answer holds last whole step. restore_only machine chain holds version last whole answer next step;
}
