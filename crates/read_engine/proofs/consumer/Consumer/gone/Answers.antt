use Rattle.std.proofs.Common.{◌<◌, length, sym, subst, arith}
use Rattle.read_engine.specs.Gone.{AreGone}
use Rattle.read_engine.specs.Position.{Position}
use Rattle.read_engine.specs.Standing.{position_of}
use Rattle.read_engine.proofs.Consumers.{its_parts, its_position}
use Rattle.read_engine.proofs.Left.{gone_in, kept_length}
use Rattle.read_engine.proofs.consumer.Consumer.gone.Goals as goal

pub get-requires : goal.get-requires
get-requires c =
    its_parts c.self.inside.tag c.self.inside.model c.self.inside.states c.self.inside.past c.self.inside.indexes c.self.inside.walks c.self.invariant c.args.self.now c.self.view_is (λ (p : Position). c.args.type_index < length p.schemas) (c.args.type_index < length c.self.inside.past) c.requires
    (λ at stands known. omega (arith, known, kept_length at c.self.inside.model c.self.inside.states c.self.inside.past c.self.inside.indexes c.self.inside.walks stands))

pub returns : goal.returns
returns c =
    its_position c.self.inside.tag c.self.inside.model c.self.inside.states c.self.inside.past c.self.inside.indexes c.self.inside.walks c.self.invariant c.args.self.now c.self.view_is (λ (p : Position). c.args.type_index < length p.schemas) (λ (p : Position). AreGone p c.args.type_index c.gone.result.now) c.requires
    (λ at stands known.
    subst (AreGone (position_of at c.self.inside.model c.self.inside.states c.self.inside.past c.self.inside.indexes c.self.inside.walks) c.args.type_index) (sym c.gone.ensures)
    (gone_in at c.self.inside.model c.self.inside.states c.self.inside.past c.self.inside.indexes c.self.inside.walks c.args.type_index c.get.result.now stands known c.get.ensures))
