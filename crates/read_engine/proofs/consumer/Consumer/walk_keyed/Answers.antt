use Rattle.std.proofs.Common.{◌<◌, length, arith}
use Rattle.std.proofs.lemmas.List.{length-map}
use Rattle.std.specs.Prelude.{IsSomeAnd, slice_get}
use Rattle.hol_paths.specs.Walked.{Walked}
use Rattle.read_engine.specs.Position.{Position}
use Rattle.read_engine.specs.Walks.{CountsWalked}
use Rattle.read_engine.proofs.Consumers.{its_parts, its_position}
use Rattle.read_engine.proofs.Walked.{counts_walked}
use Rattle.read_engine.proofs.consumer.Consumer.walk_keyed.Goals as goal

pub get-requires : goal.get-requires
get-requires c =
    its_parts c.self.inside.tag c.self.inside.model c.self.inside.states c.self.inside.past c.self.inside.indexes c.self.inside.walks c.self.invariant c.args.self.now c.self.view_is (λ (p : Position). c.args.walk < length p.walks) (c.args.walk < length c.self.inside.walks) c.requires
    (λ at stands known. omega (arith, known, length-map c.self.inside.walks (λ (w : Walked). w.path)))

pub returns : goal.returns
returns c =
    its_position c.self.inside.tag c.self.inside.model c.self.inside.states c.self.inside.past c.self.inside.indexes c.self.inside.walks c.self.invariant c.args.self.now c.self.view_is (λ (p : Position). c.args.walk < length p.walks)
    (λ (p : Position). IsSomeAnd (slice_get p.walks c.args.walk) (λ path. CountsWalked p path c.keyed.result)) c.requires
    (λ at stands known. counts_walked at c.self.inside.model c.self.inside.states c.self.inside.past c.self.inside.indexes c.self.inside.walks stands c.args.walk c.get.result.now c.get.ensures c.keyed.result c.keyed.ensures)
