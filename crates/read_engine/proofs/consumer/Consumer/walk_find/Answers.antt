use Rattle.std.proofs.Common.{◌<◌, List, ℕ, length, arith}
use Rattle.std.proofs.lemmas.List.{length-map}
use Rattle.std.specs.Prelude.{IsSomeAnd, slice_get}
use Rattle.hol_paths.specs.Walked.{Walked}
use Rattle.row_model.specs.Reach.{AreWalkMatches}
use Rattle.read_engine.specs.Position.{Position, rows_now}
use Rattle.read_engine.proofs.Consumers.{its_parts, ok_position}
use Rattle.read_engine.proofs.Walked.{walks_matched}
use Rattle.read_engine.proofs.consumer.Consumer.walk_find.Goals as goal

pub get-requires : goal.get-requires
get-requires c =
    its_parts c.self.inside.tag c.self.inside.model c.self.inside.states c.self.inside.past c.self.inside.indexes c.self.inside.walks c.self.invariant c.args.self.now c.self.view_is (λ (p : Position). c.args.walk < length p.walks) (c.args.walk < length c.self.inside.walks) c.requires
    (λ at stands known. omega (arith, known, length-map c.self.inside.walks (λ (w : Walked). w.path)))

pub returns : goal.returns
returns c =
    ok_position c.self.inside.tag c.self.inside.model c.self.inside.states c.self.inside.past c.self.inside.indexes c.self.inside.walks c.self.invariant c.args.self.now c.self.view_is c.matches.result (λ (p : Position). c.args.walk < length p.walks)
    (λ (ordinals : List ℕ) (p : Position). IsSomeAnd (slice_get p.walks c.args.walk) (λ path. AreWalkMatches p.schemas (rows_now p) path.type_index path.parts c.args.value.now ordinals)) c.requires
    (λ at stands known. walks_matched at c.self.inside.model c.self.inside.states c.self.inside.past c.self.inside.indexes c.self.inside.walks stands c.args.walk c.get.result.now c.get.ensures c.args.value.now c.matches.result c.matches.ensures)
