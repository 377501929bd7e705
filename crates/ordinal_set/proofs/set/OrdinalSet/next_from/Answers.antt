use Rattle.std.proofs.Common.{subst, ap, ◌∙◌}
use Rattle.ordinal_set.specs.Ordinals.{AreOrdinals, TellsNext}
use Rattle.ordinal_set.specs.Population.{population_of}
use Rattle.ordinal_set.proofs.Members.{least_from-told}
use Rattle.ordinal_set.proofs.Populations.{ordinals-population}
use Rattle.ordinal_set.proofs.set.OrdinalSet.next_from.Goals as goal

pub returns-clause-next : goal.returns-clause-next
returns-clause-next c =
    let ordinals = subst AreOrdinals c.self.view_is (ordinals-population c.self.inside.words.items c.self.invariant) in
    let tells =
    subst (λ set. TellsNext c.args.ordinal set c.next_set.result) (ap population_of c.deref.ensures.value ∙ c.self.view_is) c.next_set.ensures in
    least_from-told c.args.ordinal c.args.self.now c.next_set.result ordinals.rising tells

pub returns-clause-ordinals : goal.returns-clause-ordinals
returns-clause-ordinals c = subst AreOrdinals c.self.view_is (ordinals-population c.self.inside.words.items c.self.invariant)
