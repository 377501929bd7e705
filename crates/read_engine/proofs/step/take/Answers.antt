use Rattle.std.proofs.Common.{◌≡◌, ◌≤◌, ◌+◌, ◌∙◌, ◌⊎◌, ℤ, List, IfSome, map, w64, of_z, to_z, ap, sym, subst, arith}
use Rattle.std.specs.Prelude.{All, IsSome}
use Rattle.std.proofs.lemmas.Int.{ints, to_z-of_z}
use Rattle.std.proofs.lemmas.List.{with_items_is}
use Rattle.row_model.specs.Table.{IsClosed, IsTableOf}
use Rattle.type_state.specs.State.{State}
use Rattle.type_state.specs.Views.{table_of}
use Rattle.delta_blob.specs.Reads.{IsWholePart}
use Rattle.key_index.specs.Indexed.{Indexed}
use Rattle.hol_paths.specs.Walked.{Walked}
use Rattle.state_moves.specs.Halves.{current_halves}
use Rattle.blob_faults.specs.Judge.{Blames}
use Rattle.state_moves.specs.Judged.{IsFreeMove, state_moved}
use Rattle.state_moves.specs.Moving.{StaysCurrent}
use Rattle.read_engine.specs.Indexes.{CountsStep}
use Rattle.read_engine.specs.Kept.{IsKept, IsWalkKept, came_all, index_kept}
use Rattle.read_engine.specs.Position.{Position}
use Rattle.read_engine.specs.Standing.{HasParts, IsStanding, position_of, stands_at}
use Rattle.read_engine.specs.Taken.{IsTaken, ReadsSome, TakesParts, TakesWalks}
use Rattle.read_engine.proofs.Consumers.{given, has_after, its_parts, not_taken, some_counted, stands_and, step_counted, still_at, still_has, taken_from, tells_refusal}
use Rattle.read_engine.proofs.Taken.{on_err}
use Rattle.read_engine.proofs.step.take.Goals as goal

pub take_parts-taken-requires-clause-named : goal.take_parts-taken-requires-clause-named
take_parts-taken-requires-clause-named g c =
    let was : c.as_mut_slice.result.now ≡ c.consumer.inside.states = c.as_mut_slice.ensures.value ∙ c.into_vec-states.ensures ∙ c.replace.ensures.value in
    ap (map (λ (s : State). s.schema)) was ∙ given c.consumer.inside.tag c.consumer.inside.model c.consumer.inside.states c.consumer.inside.past c.consumer.inside.indexes c.consumer.inside.walks c.consumer.invariant c.args.consumer.now c.consumer.view_is c.requires.standing (map (λ (s : State). s.schema) c.consumer.inside.states ≡ c.consumer.inside.model) (λ at stands. stands.named)

pub take_parts-taken-requires-clause-fits : goal.take_parts-taken-requires-clause-fits
take_parts-taken-requires-clause-fits g c =
    let was : c.as_mut_slice.result.now ≡ c.consumer.inside.states = c.as_mut_slice.ensures.value ∙ c.into_vec-states.ensures ∙ c.replace.ensures.value in
    subst (λ (xs : List State). IsTableOf c.consumer.inside.model (table_of (current_halves xs))) (sym was) (given c.consumer.inside.tag c.consumer.inside.model c.consumer.inside.states c.consumer.inside.past c.consumer.inside.indexes c.consumer.inside.walks c.consumer.invariant c.args.consumer.now c.consumer.view_is c.requires.standing (IsTableOf c.consumer.inside.model (table_of (current_halves c.consumer.inside.states))) (λ at stands. stands.position.rows))

pub take_parts-taken-requires-clause-closed : goal.take_parts-taken-requires-clause-closed
take_parts-taken-requires-clause-closed g c =
    let was : c.as_mut_slice.result.now ≡ c.consumer.inside.states = c.as_mut_slice.ensures.value ∙ c.into_vec-states.ensures ∙ c.replace.ensures.value in
    subst (λ (xs : List State). IsClosed c.consumer.inside.model (table_of (current_halves xs))) (sym was) (given c.consumer.inside.tag c.consumer.inside.model c.consumer.inside.states c.consumer.inside.past c.consumer.inside.indexes c.consumer.inside.walks c.consumer.invariant c.args.consumer.now c.consumer.view_is c.requires.standing (IsClosed c.consumer.inside.model (table_of (current_halves c.consumer.inside.states))) (λ at stands. stands.position.closed))

pub take_parts-taken-requires-clause-whole : goal.take_parts-taken-requires-clause-whole
take_parts-taken-requires-clause-whole g c =
    its_parts c.consumer.inside.tag c.consumer.inside.model c.consumer.inside.states c.consumer.inside.past c.consumer.inside.indexes c.consumer.inside.walks c.consumer.invariant c.args.consumer.now c.consumer.view_is (λ (p : Position). All (IsWholePart p.schemas) c.args.parts.now) (All (IsWholePart c.consumer.inside.model) c.args.parts.now)
    (stands_and c.args.consumer.now (λ (p : Position). All (IsWholePart p.schemas) c.args.parts.now) c.requires.standing c.requires.whole) (λ at stands whole. whole)

pub take_parts-taken-requires-clause-kept : goal.take_parts-taken-requires-clause-kept
take_parts-taken-requires-clause-kept g c =
    let was : c.as_mut_slice.result.now ≡ c.consumer.inside.states = c.as_mut_slice.ensures.value ∙ c.into_vec-states.ensures ∙ c.replace.ensures.value in
    let were : c.as_mut_slice-2.result.now ≡ c.consumer.inside.indexes = c.as_mut_slice-2.ensures.value ∙ c.into_vec-indexes.ensures ∙ c.replace-2.ensures.value in
    subst (λ (xs : List State). All (IsKept c.consumer.inside.model (table_of (current_halves xs))) c.as_mut_slice-2.result.now) (sym was)
    (subst (λ (ks : List Indexed). All (IsKept c.consumer.inside.model (table_of (current_halves c.consumer.inside.states))) ks) (sym were)
    (given c.consumer.inside.tag c.consumer.inside.model c.consumer.inside.states c.consumer.inside.past c.consumer.inside.indexes c.consumer.inside.walks c.consumer.invariant c.args.consumer.now c.consumer.view_is c.requires.standing (All (IsKept c.consumer.inside.model (table_of (current_halves c.consumer.inside.states))) c.consumer.inside.indexes) (λ at stands. stands.indexes)))

pub take_parts-taken-requires-clause-walks : goal.take_parts-taken-requires-clause-walks
take_parts-taken-requires-clause-walks g c =
    let was : c.as_mut_slice.result.now ≡ c.consumer.inside.states = c.as_mut_slice.ensures.value ∙ c.into_vec-states.ensures ∙ c.replace.ensures.value in
    let walked_were : c.into_vec-walks.result.items ≡ c.consumer.inside.walks = c.into_vec-walks.ensures ∙ c.replace-3.ensures.value in
    subst (λ (xs : List State). All (IsWalkKept c.consumer.inside.model (table_of (current_halves xs))) c.into_vec-walks.result.items) (sym was)
    (subst (λ (ws : List Walked). All (IsWalkKept c.consumer.inside.model (table_of (current_halves c.consumer.inside.states))) ws) (sym walked_were)
    (given c.consumer.inside.tag c.consumer.inside.model c.consumer.inside.states c.consumer.inside.past c.consumer.inside.indexes c.consumer.inside.walks c.consumer.invariant c.args.consumer.now c.consumer.view_is c.requires.standing (All (IsWalkKept c.consumer.inside.model (table_of (current_halves c.consumer.inside.states))) c.consumer.inside.walks) (λ at stands. stands.walks)))

pub invariant_of-consumer : goal.invariant_of-consumer
invariant_of-consumer g c =
    let was : c.as_mut_slice.result.now ≡ c.consumer.inside.states = c.as_mut_slice.ensures.value ∙ c.into_vec-states.ensures ∙ c.replace.ensures.value in
    let were : c.as_mut_slice-2.result.now ≡ c.consumer.inside.indexes = c.as_mut_slice-2.ensures.value ∙ c.into_vec-indexes.ensures ∙ c.replace-2.ensures.value in
    let states : c.from_vec.result ≡ c.take_parts-taken.new.states = c.from_vec.ensures ∙ with_items_is c.into_vec-states.result c.take_parts-taken.new.states (omega (arith, c.take_parts-taken.auto.states, c.as_mut_slice.ensures.len)) in
    let indexes : c.from_vec-2.result ≡ c.take_parts-taken.new.indexes = c.from_vec-2.ensures ∙ with_items_is c.into_vec-indexes.result c.take_parts-taken.new.indexes (omega (arith, c.take_parts-taken.auto.indexes, c.as_mut_slice-2.ensures.len)) in
    let walked_were : c.into_vec-walks.result.items ≡ c.consumer.inside.walks = c.into_vec-walks.ensures ∙ c.replace-3.ensures.value in
    let walks : c.from_vec-3.result ≡ c.take_parts-taken.new.walks.items = c.from_vec-3.ensures in
    let same = indexes ∙ c.in_err-past.ensures.unmoved ∙ were in
    let same_walks = walks ∙ c.in_err-past.ensures.unwalked ∙ walked_were in
    let stays = subst (λ (xs : List State). StaysCurrent xs c.take_parts-taken.new.states) was c.in_err-past.ensures.stays in
    subst (λ (xs : List State). HasParts c.consumer.inside.tag c.consumer.inside.model xs c.consumer.inside.past c.from_vec-2.result c.from_vec-3.result) (sym states)
    (subst (λ (ks : List Indexed). HasParts c.consumer.inside.tag c.consumer.inside.model c.take_parts-taken.new.states c.consumer.inside.past ks c.from_vec-3.result) (sym same)
    (subst (HasParts c.consumer.inside.tag c.consumer.inside.model c.take_parts-taken.new.states c.consumer.inside.past c.consumer.inside.indexes) (sym same_walks) (still_has c.consumer.inside.tag c.consumer.inside.model c.consumer.inside.states c.consumer.inside.past c.consumer.inside.indexes c.consumer.inside.walks c.consumer.invariant c.args.consumer.now c.consumer.view_is c.requires.standing c.take_parts-taken.new.states stays)))

pub returns-in_err-past-clause-refused : goal.returns-in_err-past-clause-refused
returns-in_err-past-clause-refused g c =
    let was : c.as_mut_slice.result.now ≡ c.consumer.inside.states = c.as_mut_slice.ensures.value ∙ c.into_vec-states.ensures ∙ c.replace.ensures.value in
    let were : c.as_mut_slice-2.result.now ≡ c.consumer.inside.indexes = c.as_mut_slice-2.ensures.value ∙ c.into_vec-indexes.ensures ∙ c.replace-2.ensures.value in
    let states : c.from_vec.result ≡ c.take_parts-taken.new.states = c.from_vec.ensures ∙ with_items_is c.into_vec-states.result c.take_parts-taken.new.states (omega (arith, c.take_parts-taken.auto.states, c.as_mut_slice.ensures.len)) in
    let indexes : c.from_vec-2.result ≡ c.take_parts-taken.new.indexes = c.from_vec-2.ensures ∙ with_items_is c.into_vec-indexes.result c.take_parts-taken.new.indexes (omega (arith, c.take_parts-taken.auto.indexes, c.as_mut_slice-2.ensures.len)) in
    let walked_were : c.into_vec-walks.result.items ≡ c.consumer.inside.walks = c.into_vec-walks.ensures ∙ c.replace-3.ensures.value in
    let walks : c.from_vec-3.result ≡ c.take_parts-taken.new.walks.items = c.from_vec-3.ensures in
    let same = indexes ∙ c.in_err-past.ensures.unmoved ∙ were in
    let same_walks = walks ∙ c.in_err-past.ensures.unwalked ∙ walked_were in
    let stays = subst (λ (xs : List State). StaysCurrent xs c.take_parts-taken.new.states) was c.in_err-past.ensures.stays in
    let still : stands_at c.consumer.inside.tag c.consumer.inside.model c.from_vec.result c.consumer.inside.past c.from_vec-2.result c.from_vec-3.result ≡ c.args.consumer.now =
    (λ i. stands_at c.consumer.inside.tag c.consumer.inside.model (states i) c.consumer.inside.past (same i) (same_walks i)) ∙ still_at c.consumer.inside.tag c.consumer.inside.model c.consumer.inside.states c.consumer.inside.past c.consumer.inside.indexes c.consumer.inside.walks c.consumer.invariant c.args.consumer.now c.consumer.view_is c.requires.standing c.take_parts-taken.new.states stays in
    on_err c.from_residual.result _ still

pub returns-in_err-past-clause-state : goal.returns-in_err-past-clause-state
returns-in_err-past-clause-state g c =
    let was : c.as_mut_slice.result.now ≡ c.consumer.inside.states = c.as_mut_slice.ensures.value ∙ c.into_vec-states.ensures ∙ c.replace.ensures.value in
    let were : c.as_mut_slice-2.result.now ≡ c.consumer.inside.indexes = c.as_mut_slice-2.ensures.value ∙ c.into_vec-indexes.ensures ∙ c.replace-2.ensures.value in
    let states : c.from_vec.result ≡ c.take_parts-taken.new.states = c.from_vec.ensures ∙ with_items_is c.into_vec-states.result c.take_parts-taken.new.states (omega (arith, c.take_parts-taken.auto.states, c.as_mut_slice.ensures.len)) in
    let indexes : c.from_vec-2.result ≡ c.take_parts-taken.new.indexes = c.from_vec-2.ensures ∙ with_items_is c.into_vec-indexes.result c.take_parts-taken.new.indexes (omega (arith, c.take_parts-taken.auto.indexes, c.as_mut_slice-2.ensures.len)) in
    let walked_were : c.into_vec-walks.result.items ≡ c.consumer.inside.walks = c.into_vec-walks.ensures ∙ c.replace-3.ensures.value in
    let walks : c.from_vec-3.result ≡ c.take_parts-taken.new.walks.items = c.from_vec-3.ensures in
    let same = indexes ∙ c.in_err-past.ensures.unmoved ∙ were in
    let same_walks = walks ∙ c.in_err-past.ensures.unwalked ∙ walked_were in
    let stays = subst (λ (xs : List State). StaysCurrent xs c.take_parts-taken.new.states) was c.in_err-past.ensures.stays in
    let still : stands_at c.consumer.inside.tag c.consumer.inside.model c.from_vec.result c.consumer.inside.past c.from_vec-2.result c.from_vec-3.result ≡ c.args.consumer.now =
    (λ i. stands_at c.consumer.inside.tag c.consumer.inside.model (states i) c.consumer.inside.past (same i) (same_walks i)) ∙ still_at c.consumer.inside.tag c.consumer.inside.model c.consumer.inside.states c.consumer.inside.past c.consumer.inside.indexes c.consumer.inside.walks c.consumer.invariant c.args.consumer.now c.consumer.view_is c.requires.standing c.take_parts-taken.new.states stays in
    subst IsSome (sym still) c.requires.standing

pub returns-in_err-past-clause-tells : goal.returns-in_err-past-clause-tells
returns-in_err-past-clause-tells g c =
    let was : c.as_mut_slice.result.now ≡ c.consumer.inside.states = c.as_mut_slice.ensures.value ∙ c.into_vec-states.ensures ∙ c.replace.ensures.value in
    tells_refusal c.args.size c.args.tag c.args.parts.now c.args.consumer.now _ c.from_residual.result c.in_err-past.field-0.0 c.from_residual.ensures.1
    (not_taken c.consumer.inside.tag c.consumer.inside.model c.consumer.inside.states c.consumer.inside.past c.consumer.inside.indexes c.consumer.inside.walks c.consumer.invariant c.args.consumer.now c.consumer.view_is c.requires.standing c.args.size c.args.parts.now c.in_err-past.field-0.0
    (subst (λ (xs : List State). Blames (state_moved c.consumer.inside.model c.args.parts.now c.args.size (table_of (current_halves xs))) IsFreeMove c.in_err-past.field-0.0) was c.in_err-past.ensures.blamed))

pub returns-in_err-past-clause-part : goal.returns-in_err-past-clause-part
returns-in_err-past-clause-part g c =
    let was : c.as_mut_slice.result.now ≡ c.consumer.inside.states = c.as_mut_slice.ensures.value ∙ c.into_vec-states.ensures ∙ c.replace.ensures.value in
    let were : c.as_mut_slice-2.result.now ≡ c.consumer.inside.indexes = c.as_mut_slice-2.ensures.value ∙ c.into_vec-indexes.ensures ∙ c.replace-2.ensures.value in
    let walked_were : c.into_vec-walks.result.items ≡ c.consumer.inside.walks = c.into_vec-walks.ensures ∙ c.replace-3.ensures.value in
    let walks : c.from_vec-3.result ≡ c.take_parts-taken.new.walks.items = c.from_vec-3.ensures in
    on_err c.from_residual.result _
    (some_counted c.consumer.inside.tag c.consumer.inside.model c.consumer.inside.states c.consumer.inside.past c.consumer.inside.indexes c.consumer.inside.walks c.consumer.invariant c.args.consumer.now c.consumer.view_is c.requires.standing c.args.tag c.args.parts.now c.args.steps.now c.take_parts-taken.new.steps
    (subst (λ (xs : List State). (c.take_parts-taken.new.steps ≡ c.args.steps.now) ⊎ ReadsSome c.consumer.inside.model c.args.parts.now xs c.consumer.inside.indexes c.consumer.inside.walks c.args.steps.now c.take_parts-taken.new.steps) was
    (subst (λ (ks : List Indexed). (c.take_parts-taken.new.steps ≡ c.args.steps.now) ⊎ ReadsSome c.consumer.inside.model c.args.parts.now c.as_mut_slice.result.now ks c.consumer.inside.walks c.args.steps.now c.take_parts-taken.new.steps) were
    (subst (λ (ws : List Walked). (c.take_parts-taken.new.steps ≡ c.args.steps.now) ⊎ ReadsSome c.consumer.inside.model c.args.parts.now c.as_mut_slice.result.now c.as_mut_slice-2.result.now ws c.args.steps.now c.take_parts-taken.new.steps) walked_were
    c.in_err-past.ensures.part))))

pub invariant_of-consumer-2 : goal.invariant_of-consumer-2
invariant_of-consumer-2 g c =
    let was : c.as_mut_slice.result.now ≡ c.consumer.inside.states = c.as_mut_slice.ensures.value ∙ c.into_vec-states.ensures ∙ c.replace.ensures.value in
    let were : c.as_mut_slice-2.result.now ≡ c.consumer.inside.indexes = c.as_mut_slice-2.ensures.value ∙ c.into_vec-indexes.ensures ∙ c.replace-2.ensures.value in
    let states : c.from_vec.result ≡ c.take_parts-taken.new.states = c.from_vec.ensures ∙ with_items_is c.into_vec-states.result c.take_parts-taken.new.states (omega (arith, c.take_parts-taken.auto.states, c.as_mut_slice.ensures.len)) in
    let indexes : c.from_vec-2.result ≡ c.take_parts-taken.new.indexes = c.from_vec-2.ensures ∙ with_items_is c.into_vec-indexes.result c.take_parts-taken.new.indexes (omega (arith, c.take_parts-taken.auto.indexes, c.as_mut_slice-2.ensures.len)) in
    let tag : to_z w64 (of_z w64 c.args.tag) ≡ c.args.tag = grind (arith, ints, to_z-of_z) in
    let takes = subst (λ (xs : List State). TakesParts c.consumer.inside.model c.args.parts.now xs c.take_parts-taken.new.states c.in_ok-past.past) was c.in_ok-past.ensures.takes in
    let alike = c.take_parts-taken.ensures.same ∙ ap (map index_kept) were in
    let walked_were : c.into_vec-walks.result.items ≡ c.consumer.inside.walks = c.into_vec-walks.ensures ∙ c.replace-3.ensures.value in
    let walks : c.from_vec-3.result ≡ c.take_parts-taken.new.walks.items = c.from_vec-3.ensures in
    let walked = subst (λ (ws : List Walked). TakesWalks c.consumer.inside.model (table_of (current_halves c.take_parts-taken.new.states)) ws c.take_parts-taken.new.walks.items) walked_were c.in_ok-past.ensures.walks in
    subst (λ (t : ℤ). IsStanding t c.consumer.inside.model c.from_vec.result c.in_ok-past.past c.from_vec-2.result c.from_vec-3.result) (sym tag)
    (subst (λ (xs : List State). IsStanding c.args.tag c.consumer.inside.model xs c.in_ok-past.past c.from_vec-2.result c.from_vec-3.result) (sym states)
    (subst (λ (ks : List Indexed). IsStanding c.args.tag c.consumer.inside.model c.take_parts-taken.new.states c.in_ok-past.past ks c.from_vec-3.result) (sym indexes)
    (subst (IsStanding c.args.tag c.consumer.inside.model c.take_parts-taken.new.states c.in_ok-past.past c.take_parts-taken.new.indexes) (sym walks)
    (has_after c.consumer.inside.tag c.consumer.inside.model c.consumer.inside.states c.consumer.inside.past c.consumer.inside.indexes c.consumer.inside.walks c.consumer.invariant c.args.consumer.now c.consumer.view_is c.requires.standing c.args.tag c.args.parts.now c.take_parts-taken.new.states c.in_ok-past.past c.take_parts-taken.new.indexes c.take_parts-taken.new.walks.items takes alike c.in_ok-past.ensures.follow walked))))

pub returns-clause-tells : goal.returns-clause-tells
returns-clause-tells g c =
    let was : c.as_mut_slice.result.now ≡ c.consumer.inside.states = c.as_mut_slice.ensures.value ∙ c.into_vec-states.ensures ∙ c.replace.ensures.value in
    let were : c.as_mut_slice-2.result.now ≡ c.consumer.inside.indexes = c.as_mut_slice-2.ensures.value ∙ c.into_vec-indexes.ensures ∙ c.replace-2.ensures.value in
    let states : c.from_vec.result ≡ c.take_parts-taken.new.states = c.from_vec.ensures ∙ with_items_is c.into_vec-states.result c.take_parts-taken.new.states (omega (arith, c.take_parts-taken.auto.states, c.as_mut_slice.ensures.len)) in
    let indexes : c.from_vec-2.result ≡ c.take_parts-taken.new.indexes = c.from_vec-2.ensures ∙ with_items_is c.into_vec-indexes.result c.take_parts-taken.new.indexes (omega (arith, c.take_parts-taken.auto.indexes, c.as_mut_slice-2.ensures.len)) in
    let tag : to_z w64 (of_z w64 c.args.tag) ≡ c.args.tag = grind (arith, ints, to_z-of_z) in
    let takes = subst (λ (xs : List State). TakesParts c.consumer.inside.model c.args.parts.now xs c.take_parts-taken.new.states c.in_ok-past.past) was c.in_ok-past.ensures.takes in
    let alike = c.take_parts-taken.ensures.same ∙ ap (map index_kept) were in
    let walked_were : c.into_vec-walks.result.items ≡ c.consumer.inside.walks = c.into_vec-walks.ensures ∙ c.replace-3.ensures.value in
    let walks : c.from_vec-3.result ≡ c.take_parts-taken.new.walks.items = c.from_vec-3.ensures in
    let walked = subst (λ (ws : List Walked). TakesWalks c.consumer.inside.model (table_of (current_halves c.take_parts-taken.new.states)) ws c.take_parts-taken.new.walks.items) walked_were c.in_ok-past.ensures.walks in
    subst (λ (t : ℤ). IfSome c.args.consumer.now (λ from. IsTaken c.args.tag c.args.parts.now from (position_of t c.consumer.inside.model c.from_vec.result c.in_ok-past.past c.from_vec-2.result c.from_vec-3.result))) (sym tag)
    (subst (λ (xs : List State). IfSome c.args.consumer.now (λ from. IsTaken c.args.tag c.args.parts.now from (position_of c.args.tag c.consumer.inside.model xs c.in_ok-past.past c.from_vec-2.result c.from_vec-3.result))) (sym states)
    (subst (λ (ks : List Indexed). IfSome c.args.consumer.now (λ from. IsTaken c.args.tag c.args.parts.now from (position_of c.args.tag c.consumer.inside.model c.take_parts-taken.new.states c.in_ok-past.past ks c.from_vec-3.result))) (sym indexes)
    (subst (λ (ws : List Walked). IfSome c.args.consumer.now (λ from. IsTaken c.args.tag c.args.parts.now from (position_of c.args.tag c.consumer.inside.model c.take_parts-taken.new.states c.in_ok-past.past c.take_parts-taken.new.indexes ws))) (sym walks)
    (taken_from c.consumer.inside.tag c.consumer.inside.model c.consumer.inside.states c.consumer.inside.past c.consumer.inside.indexes c.consumer.inside.walks c.consumer.invariant c.args.consumer.now c.consumer.view_is c.requires.standing c.args.tag c.args.parts.now c.take_parts-taken.new.states c.in_ok-past.past c.take_parts-taken.new.indexes c.take_parts-taken.new.walks.items takes alike c.in_ok-past.ensures.follow walked))))

pub returns-clause-counted : goal.returns-clause-counted
returns-clause-counted g c =
    let was : c.as_mut_slice.result.now ≡ c.consumer.inside.states = c.as_mut_slice.ensures.value ∙ c.into_vec-states.ensures ∙ c.replace.ensures.value in
    let were : c.as_mut_slice-2.result.now ≡ c.consumer.inside.indexes = c.as_mut_slice-2.ensures.value ∙ c.into_vec-indexes.ensures ∙ c.replace-2.ensures.value in
    let states : c.from_vec.result ≡ c.take_parts-taken.new.states = c.from_vec.ensures ∙ with_items_is c.into_vec-states.result c.take_parts-taken.new.states (omega (arith, c.take_parts-taken.auto.states, c.as_mut_slice.ensures.len)) in
    let indexes : c.from_vec-2.result ≡ c.take_parts-taken.new.indexes = c.from_vec-2.ensures ∙ with_items_is c.into_vec-indexes.result c.take_parts-taken.new.indexes (omega (arith, c.take_parts-taken.auto.indexes, c.as_mut_slice-2.ensures.len)) in
    let tag : to_z w64 (of_z w64 c.args.tag) ≡ c.args.tag = grind (arith, ints, to_z-of_z) in
    let takes = subst (λ (xs : List State). TakesParts c.consumer.inside.model c.args.parts.now xs c.take_parts-taken.new.states c.in_ok-past.past) was c.in_ok-past.ensures.takes in
    let alike = c.take_parts-taken.ensures.same ∙ ap (map index_kept) were in
    let walked_were : c.into_vec-walks.result.items ≡ c.consumer.inside.walks = c.into_vec-walks.ensures ∙ c.replace-3.ensures.value in
    let walks : c.from_vec-3.result ≡ c.take_parts-taken.new.walks.items = c.from_vec-3.ensures in
    let walked = subst (λ (ws : List Walked). TakesWalks c.consumer.inside.model (table_of (current_halves c.take_parts-taken.new.states)) ws c.take_parts-taken.new.walks.items) walked_were c.in_ok-past.ensures.walks in
    let least = subst (λ (ks : List Indexed). c.args.steps.now + came_all c.in_ok-past.past ks c.take_parts-taken.new.walks.items ≤ c.take_parts-taken.new.steps) were c.in_ok-past.ensures.least in
    let most =
    subst (λ (ks : List Indexed). c.take_parts-taken.new.steps ≤ c.args.steps.now + came_all c.in_ok-past.past ks c.consumer.inside.walks) were
    (subst (λ (ws : List Walked). c.take_parts-taken.new.steps ≤ c.args.steps.now + came_all c.in_ok-past.past c.as_mut_slice-2.result.now ws) walked_were c.in_ok-past.ensures.most)
    in
    subst (λ (t : ℤ). IfSome c.args.consumer.now (λ from. CountsStep from (position_of t c.consumer.inside.model c.from_vec.result c.in_ok-past.past c.from_vec-2.result c.from_vec-3.result) c.args.steps.now c.take_parts-taken.new.steps)) (sym tag)
    (subst (λ (xs : List State). IfSome c.args.consumer.now (λ from. CountsStep from (position_of c.args.tag c.consumer.inside.model xs c.in_ok-past.past c.from_vec-2.result c.from_vec-3.result) c.args.steps.now c.take_parts-taken.new.steps)) (sym states)
    (subst (λ (ks : List Indexed). IfSome c.args.consumer.now (λ from. CountsStep from (position_of c.args.tag c.consumer.inside.model c.take_parts-taken.new.states c.in_ok-past.past ks c.from_vec-3.result) c.args.steps.now c.take_parts-taken.new.steps)) (sym indexes)
    (subst (λ (ws : List Walked). IfSome c.args.consumer.now (λ from. CountsStep from (position_of c.args.tag c.consumer.inside.model c.take_parts-taken.new.states c.in_ok-past.past c.take_parts-taken.new.indexes ws) c.args.steps.now c.take_parts-taken.new.steps)) (sym walks)
    (step_counted c.consumer.inside.tag c.consumer.inside.model c.consumer.inside.states c.consumer.inside.past c.consumer.inside.indexes c.consumer.inside.walks c.consumer.invariant c.args.consumer.now c.consumer.view_is c.requires.standing c.args.tag c.args.parts.now
    c.take_parts-taken.new.states c.in_ok-past.past c.take_parts-taken.new.indexes c.take_parts-taken.new.walks.items takes alike c.in_ok-past.ensures.follow walked c.args.steps.now c.take_parts-taken.new.steps least most))))
