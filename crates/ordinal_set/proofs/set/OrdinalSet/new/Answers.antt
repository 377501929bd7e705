use Rattle.std.proofs.Common.{sym, subst, ap, ◌∙◌}
use Rattle.ordinal_set.specs.Population.{population_of, FitOrdinals}
use Rattle.ordinal_set.proofs.Populations.{fit_none, population-none}
use Rattle.ordinal_set.proofs.set.OrdinalSet.new.Goals as goal

pub invariant_of-result : goal.invariant_of-result
invariant_of-result c = subst FitOrdinals (sym c.new.ensures.items) fit_none

pub returns : goal.returns
returns c = ap population_of c.new.ensures.items ∙ population-none
