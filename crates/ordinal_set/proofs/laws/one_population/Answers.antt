use Rattle.ordinal_set.proofs.OnePopulation.{populated_once}
use Rattle.ordinal_set.proofs.laws.one_population.Goals as goal

pub returns : goal.returns
returns c = populated_once
