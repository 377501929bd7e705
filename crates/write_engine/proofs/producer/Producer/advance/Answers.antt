use Rattle.std.proofs.Common.{rules, ◌≡◌, ◌∙◌, ap, sym, subst, w64, to_z, of_z}
use Rattle.write_engine.specs.Production.{IsProducing, advanced_to}
use Rattle.write_engine.proofs.Producing.{advanced_producing, advanced_view}
use Rattle.write_engine.proofs.producer.Producer.advance.Goals as goal

pub invariant_of-self : goal.invariant_of-self
invariant_of-self c = subst (IsProducing c.self.inside.model) (sym c.advance_all.ensures) (advanced_producing c.self.inside.model c.self.inside.maps.items c.self.invariant)

pub returns : goal.returns
returns c =
    let same : to_z w64 (of_z w64 c.args.tag) ≡ c.args.tag = search rules in
    advanced_view c.self.inside.model c.self.inside.maps.items c.advance_all.new.maps.items c.self.inside.tag c.args.tag (to_z w64 (of_z w64 c.args.tag)) c.self.inside.version c.args.version c.self.inside.closed c.self.inside.over
    same c.advance_all.ensures c.self.invariant
    ∙ ap (advanced_to c.args.tag c.args.version) c.self.view_is
