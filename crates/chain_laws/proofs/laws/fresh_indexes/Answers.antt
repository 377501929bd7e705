use Rattle.chain_laws.proofs.FreshIndexes.{fresh_indexed, fresh_there}
use Rattle.chain_laws.proofs.laws.fresh_indexes.Goals as goal

pub returns : goal.returns
returns c = record {
  there = λ machine chain version state now holds there whole was tag own of. fresh_there machine chain version state now holds there whole was tag own of;
  all = λ machine loaded between next chain version state now answer asked walked holds there whole was tag own of asks seeks step added walks.
      fresh_indexed machine chain version state now holds there whole was tag own of loaded between next answer asked walked asks seeks step added walks;
}
