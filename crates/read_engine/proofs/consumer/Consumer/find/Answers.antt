use Rattle.std.proofs.Common.{◌<◌, List, ℕ, length, arith}
use Rattle.std.proofs.lemmas.List.{length-map}
use Rattle.std.specs.Prelude.{IsSomeAnd, slice_get}
use Rattle.row_model.specs.Key.{AreMatches}
use Rattle.read_engine.specs.Kept.{index_kept}
use Rattle.read_engine.specs.Position.{Position, rows_now}
use Rattle.read_engine.proofs.Answered.{all_matched}
use Rattle.read_engine.proofs.Consumers.{its_parts, ok_position}
use Rattle.read_engine.proofs.consumer.Consumer.find.Goals as goal

pub get-requires : goal.get-requires
get-requires c =
    its_parts c.self.inside.tag c.self.inside.model c.self.inside.states c.self.inside.past c.self.inside.indexes c.self.inside.walks c.self.invariant c.args.self.now c.self.view_is (λ (p : Position). c.args.index < length p.indexes) (c.args.index < length c.self.inside.indexes) c.requires
    (λ at stands known. omega (arith, known, length-map c.self.inside.indexes index_kept))

pub returns : goal.returns
returns c =
    ok_position c.self.inside.tag c.self.inside.model c.self.inside.states c.self.inside.past c.self.inside.indexes c.self.inside.walks c.self.invariant c.args.self.now c.self.view_is c.matches.result (λ (p : Position). c.args.index < length p.indexes)
    (λ (ordinals : List ℕ) (p : Position). IsSomeAnd (slice_get p.indexes c.args.index) (λ kept. AreMatches p.schemas (rows_now p) kept.type_index kept.paths c.args.key.now ordinals)) c.requires
    (λ at stands known.
    all_matched at c.self.inside.model c.self.inside.states c.self.inside.past c.self.inside.indexes c.self.inside.walks stands c.args.index c.get.result.now c.get.ensures c.args.key.now c.matches.result c.matches.ensures)
