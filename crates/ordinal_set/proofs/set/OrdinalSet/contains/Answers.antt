use Rattle.std.proofs.Common.{subst, ap, ◌∙◌}
use Rattle.std.specs.Prelude.{Contains, IsTrue, ◌↔◌}
use Rattle.ordinal_set.specs.Ordinals.{AreOrdinals}
use Rattle.ordinal_set.specs.Population.{has_bit}
use Rattle.ordinal_set.proofs.Populations.{ordinals-population, member_by_bit}
use Rattle.ordinal_set.proofs.set.OrdinalSet.contains.Goals as goal

pub returns-clause-member : goal.returns-clause-member
returns-clause-member c =
    let o = c.args.ordinal in
    let bit = c.has_set.ensures ∙ ap (λ words. has_bit words o) c.deref.ensures.value in
    subst (λ set. IsTrue c.has_set.result ↔ Contains set o) c.self.view_is (member_by_bit c.self.inside.words.items o c.has_set.result bit)

pub returns-clause-ordinals : goal.returns-clause-ordinals
returns-clause-ordinals c = subst AreOrdinals c.self.view_is (ordinals-population c.self.inside.words.items c.self.invariant)
