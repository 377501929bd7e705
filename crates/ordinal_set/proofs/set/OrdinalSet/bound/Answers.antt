use Rattle.std.proofs.Common.{subst}
use Rattle.ordinal_set.specs.Ordinals.{AreOrdinals}
use Rattle.ordinal_set.proofs.Populations.{ordinals-population}
use Rattle.ordinal_set.proofs.set.OrdinalSet.bound.Goals as goal

pub returns-clause-ordinals : goal.returns-clause-ordinals
returns-clause-ordinals c = subst AreOrdinals c.self.view_is (ordinals-population c.self.inside.words.items c.self.invariant)
