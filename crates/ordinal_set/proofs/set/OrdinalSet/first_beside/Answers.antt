use Rattle.std.proofs.Common.{subst, ap, ◌∙◌}
use Rattle.ordinal_set.specs.Ordinals.{AreOrdinals, TellsNext, lacking}
use Rattle.ordinal_set.specs.Population.{population_of}
use Rattle.ordinal_set.proofs.Lacking.{ordinals-lacking}
use Rattle.ordinal_set.proofs.Members.{least_from-told}
use Rattle.ordinal_set.proofs.Populations.{ordinals-population}
use Rattle.ordinal_set.proofs.set.OrdinalSet.first_beside.Goals as goal

pub returns : goal.returns
returns c =
    let set = c.args.self.now in
    let other = c.args.other.now in
    let ordinals = subst AreOrdinals c.self.view_is (ordinals-population c.self.inside.words.items c.self.invariant) in
    let others = subst AreOrdinals c.other.view_is (ordinals-population c.other.inside.words.items c.other.invariant) in
    let seen = ap population_of c.deref.ensures.value ∙ c.self.view_is in
    let other_seen = ap population_of c.deref-2.ensures.value ∙ c.other.view_is in
    let tells = subst (λ xs. TellsNext c.args.ordinal (lacking set xs) c.next_beside.result) other_seen (subst (λ xs. TellsNext c.args.ordinal (lacking xs (population_of c.deref-2.result.now)) c.next_beside.result) seen c.next_beside.ensures) in
    record {
      first = least_from-told c.args.ordinal (lacking set other) c.next_beside.result (ordinals-lacking set other ordinals).rising tells;
      tells = tells;
      ordinals = ordinals;
      others = others;
    }
