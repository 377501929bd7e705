use Rattle.std.proofs.Common.{◌≡◌, ◌<◌, ◌^◌, List, Some, length, subst, sym, arith}
use Rattle.std.proofs.lemmas.List.{length-map}
use Rattle.std.specs.Prelude.{Contains, MatchOption, slice_get}
use Rattle.hol_paths.specs.Walked.{Walked}
use Rattle.read_engine.specs.Kept.{paths_of}
use Rattle.read_engine.specs.Position.{IsPosition, Position}
use Rattle.read_engine.proofs.Consumers.{each_position, is_position, its_parts, stands_and}
use Rattle.read_engine.proofs.consumer.Consumer.walk_of.Goals as goal

pub place_of-requires : goal.place_of-requires
place_of-requires c =
    its_parts c.self.inside.tag c.self.inside.model c.self.inside.states c.self.inside.past c.self.inside.indexes c.self.inside.walks c.self.invariant c.args.self.now c.self.view_is IsPosition (length c.as_slice.result.now < 2 ^ 32) (stands_and c.args.self.now IsPosition c.requires (is_position c.self.inside.tag c.self.inside.model c.self.inside.states c.self.inside.past c.self.inside.indexes c.self.inside.walks c.self.invariant c.args.self.now c.self.view_is))
    (λ at stands position.
    subst (λ (walks : List Walked). length walks < 2 ^ 32) (sym c.as_slice.ensures) (let few = stands.position.few_walks in omega (arith, few, length-map c.self.inside.walks (λ (w : Walked). w.path))))

pub returns : goal.returns
returns c =
    let path = c.args.path.now in
    stands_and c.args.self.now (λ (p : Position). MatchOption c.place_of.result (Contains p.walks path → ⊥) (λ number. slice_get p.walks number ≡ Some path)) c.requires
    (each_position c.self.inside.tag c.self.inside.model c.self.inside.states c.self.inside.past c.self.inside.indexes c.self.inside.walks c.self.invariant c.args.self.now c.self.view_is (λ (p : Position). MatchOption c.place_of.result (Contains p.walks path → ⊥) (λ number. slice_get p.walks number ≡ Some path))
    (λ at stands.
    subst (λ (walks : List Walked). MatchOption c.place_of.result (Contains (paths_of walks) path → ⊥) (λ number. slice_get (paths_of walks) number ≡ Some path)) c.as_slice.ensures c.place_of.ensures))
