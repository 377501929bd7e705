use Rattle.write_engine.proofs.Filling.{kept_producing, kept_view}
use Rattle.write_engine.proofs.producer.Producer.keep_all.Goals as goal

pub invariant_of-self : goal.invariant_of-self
invariant_of-self c = kept_producing c.self.inside.model c.self.inside.maps.items c.keep_all.new.maps.items c.keep_all.result c.self.invariant c.keep_all.ensures.kept c.keep_all.ensures.refused

pub returns-clause-kept : goal.returns-clause-kept
returns-clause-kept c =
    kept_view c.self.inside.model c.self.inside.maps.items c.keep_all.new.maps.items c.self.inside.tag c.self.inside.version c.self.inside.closed c.self.inside.over c.args.self.now c.keep_all.result c.self.view_is
    c.keep_all.ensures.kept
