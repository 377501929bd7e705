use Rattle.std.proofs.Common.{◌<◌, length, arith}
use Rattle.std.proofs.lemmas.List.{length-map}
use Rattle.std.specs.Prelude.{IsSomeAnd, slice_get}
use Rattle.read_engine.specs.Indexes.{CountsKeyed}
use Rattle.read_engine.specs.Kept.{index_kept}
use Rattle.read_engine.specs.Position.{Position}
use Rattle.read_engine.proofs.Answered.{counts_keyed}
use Rattle.read_engine.proofs.Consumers.{its_parts, its_position}
use Rattle.read_engine.proofs.consumer.Consumer.keyed.Goals as goal

pub get-requires : goal.get-requires
get-requires c =
    its_parts c.self.inside.tag c.self.inside.model c.self.inside.states c.self.inside.past c.self.inside.indexes c.self.inside.walks c.self.invariant c.args.self.now c.self.view_is (λ (p : Position). c.args.index < length p.indexes) (c.args.index < length c.self.inside.indexes) c.requires
    (λ at stands known. omega (arith, known, length-map c.self.inside.indexes index_kept))

pub returns : goal.returns
returns c =
    its_position c.self.inside.tag c.self.inside.model c.self.inside.states c.self.inside.past c.self.inside.indexes c.self.inside.walks c.self.invariant c.args.self.now c.self.view_is (λ (p : Position). c.args.index < length p.indexes)
    (λ (p : Position). IsSomeAnd (slice_get p.indexes c.args.index) (λ kept. CountsKeyed p kept c.keyed.result)) c.requires
    (λ at stands known.
    counts_keyed at c.self.inside.model c.self.inside.states c.self.inside.past c.self.inside.indexes c.self.inside.walks stands c.args.index c.get.result.now c.get.ensures c.keyed.result c.keyed.ensures)
