use Rattle.std.proofs.Common.{◌≡◌, ◌<◌, length, arith}
use Rattle.std.specs.FinMap.{keys}
use Rattle.read_engine.specs.Position.{IsOfType, Position}
use Rattle.read_engine.proofs.Consumers.{its_parts, its_position, of_state, states_length}
use Rattle.read_engine.proofs.consumer.Consumer.live_count.Goals as goal

pub get-requires : goal.get-requires
get-requires c =
    its_parts c.self.inside.tag c.self.inside.model c.self.inside.states c.self.inside.past c.self.inside.indexes c.self.inside.walks c.self.invariant c.args.self.now c.self.view_is (λ (p : Position). c.args.type_index < length p.schemas) (c.args.type_index < length c.self.inside.states) c.requires
    (λ at stands known. omega (arith, known, states_length at c.self.inside.model c.self.inside.states c.self.inside.past c.self.inside.indexes c.self.inside.walks stands))

pub returns : goal.returns
returns c =
    its_position c.self.inside.tag c.self.inside.model c.self.inside.states c.self.inside.past c.self.inside.indexes c.self.inside.walks c.self.invariant c.args.self.now c.self.view_is (λ (p : Position). c.args.type_index < length p.schemas)
    (λ (p : Position). IsOfType p c.args.type_index (λ schema half. c.live_count.result ≡ length (keys half.rows))) c.requires
    (λ at stands known.
    of_state at c.self.inside.model c.self.inside.states c.self.inside.past c.self.inside.indexes c.self.inside.walks stands c.args.type_index c.get.result.now c.get.ensures (λ schema half. c.live_count.result ≡ length (keys half.rows)) c.live_count.ensures)
