use Rattle.std.proofs.Common.{◌≡◌, ◌<◌, ◌^◌, List, Some, length, map, subst, sym, arith}
use Rattle.std.proofs.lemmas.List.{length-map}
use Rattle.std.specs.Prelude.{Contains, MatchOption, slice_get}
use Rattle.key_index.specs.Indexed.{Indexed}
use Rattle.read_engine.specs.Indexes.{index_by}
use Rattle.read_engine.specs.Kept.{index_kept}
use Rattle.read_engine.specs.Position.{IsPosition, Position}
use Rattle.read_engine.proofs.Consumers.{each_position, is_position, its_parts, stands_and}
use Rattle.read_engine.proofs.consumer.Consumer.index_of.Goals as goal

pub place_of-requires : goal.place_of-requires
place_of-requires c =
    its_parts c.self.inside.tag c.self.inside.model c.self.inside.states c.self.inside.past c.self.inside.indexes c.self.inside.walks c.self.invariant c.args.self.now c.self.view_is IsPosition (length c.as_slice.result.now < 2 ^ 32) (stands_and c.args.self.now IsPosition c.requires (is_position c.self.inside.tag c.self.inside.model c.self.inside.states c.self.inside.past c.self.inside.indexes c.self.inside.walks c.self.invariant c.args.self.now c.self.view_is))
    (λ at stands position.
    subst (λ (kept : List Indexed). length kept < 2 ^ 32) (sym c.as_slice.ensures) (let few = stands.position.few in omega (arith, few, length-map c.self.inside.indexes index_kept)))

pub returns : goal.returns
returns c =
    let index = index_by c.args.type_index c.args.paths.now in
    stands_and c.args.self.now (λ (p : Position). MatchOption c.place_of.result (Contains p.indexes index → ⊥) (λ number. slice_get p.indexes number ≡ Some index)) c.requires
    (each_position c.self.inside.tag c.self.inside.model c.self.inside.states c.self.inside.past c.self.inside.indexes c.self.inside.walks c.self.invariant c.args.self.now c.self.view_is (λ (p : Position). MatchOption c.place_of.result (Contains p.indexes index → ⊥) (λ number. slice_get p.indexes number ≡ Some index))
    (λ at stands.
    subst (λ (kept : List Indexed). MatchOption c.place_of.result (Contains (map index_kept kept) index → ⊥) (λ number. slice_get (map index_kept kept) number ≡ Some index)) c.as_slice.ensures c.place_of.ensures))
