use Rattle.chain_laws.proofs.ConsumerOrders.{load_fresh, load_only, load_taken}
use Rattle.chain_laws.proofs.laws.chain_load_taken.Goals as goal

pub returns : goal.returns
returns c = record {
  taken = λ machine chain version state holds there whole. load_taken machine chain version state holds there whole;
  only = λ machine next chain version state answer holds there whole step. load_only machine chain version state holds there whole answer next step;
  fresh = λ machine next chain version state now answer holds there whole was tag own bare unwalked step. load_fresh machine chain version state holds there whole now answer next was tag own bare unwalked step;
}
