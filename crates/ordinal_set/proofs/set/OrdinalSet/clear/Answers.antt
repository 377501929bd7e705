use Rattle.std.proofs.Common.{subst, sym, ap, ◌∙◌}
use Rattle.ordinal_set.specs.Population.{population_of, FitOrdinals}
use Rattle.ordinal_set.proofs.Populations.{fit_none, population-none}
use Rattle.ordinal_set.proofs.set.OrdinalSet.clear.Goals as goal

pub invariant_of-self : goal.invariant_of-self
invariant_of-self c = subst FitOrdinals (sym c.clear.ensures.items) fit_none

pub returns : goal.returns
returns c = ap population_of c.clear.ensures.items ∙ population-none
