use Rattle.std.proofs.Common.{◌<◌, ◌∙◌, length, sym, subst, arith}
use Rattle.write_engine.specs.Production.{Production}
use Rattle.write_engine.proofs.Producing.{count_types}
use Rattle.write_engine.proofs.Reserving.{reserved_producing, reserved_view}
use Rattle.write_engine.proofs.producer.Producer.reserve.Goals as goal

pub reserve_one-requires : goal.reserve_one-requires
reserve_one-requires c = record {
  known = (let known = subst (λ (p : Production). c.args.type_index < length p.schemas) (sym c.self.view_is) c.requires.known in
      let count = count_types c.self.inside.model c.self.inside.maps.items c.self.invariant in omega (arith, known, count));
  low = c.requires.low;
}

pub invariant_of-self : goal.invariant_of-self
invariant_of-self c =
    reserved_producing c.self.inside.model c.self.inside.maps.items c.reserve_one.new.maps.items c.reserve_one.ensures.previous c.reserve_one.ensures.current c.self.invariant

pub returns : goal.returns
returns c =
    reserved_view c.self.inside.model c.self.inside.maps.items c.reserve_one.new.maps.items c.reserve_one.ensures.previous c.reserve_one.ensures.current c.self.inside.tag c.self.inside.version c.self.inside.closed c.self.inside.over
    ∙ c.self.view_is
