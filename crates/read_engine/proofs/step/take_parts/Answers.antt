use Rattle.std.proofs.Common.{◌≡◌, ◌≤◌, ◌+◌, inr, ap, map, sym, subst, ◌∙◌, Bool, List, arith}
use Rattle.std.specs.Prelude.{All, filter}
use Rattle.std.specs.List.{AllZip}
use Rattle.std.proofs.lemmas.List.{with_items_is}
use Rattle.row_model.specs.Table.{IsClosed}
use Rattle.type_state.specs.State.{Half}
use Rattle.type_state.specs.Views.{table_of}
use Rattle.state_moves.specs.Halves.{current_halves}
use Rattle.blob_faults.specs.Judge.{Blames}
use Rattle.state_moves.specs.Judged.{IsFreeMove, state_moved}
use Rattle.state_moves.specs.Moving.{AreComing, IsComingLaid, coming_halves}
use Rattle.row_model.specs.Before.{PastPart}
use Rattle.hol_paths.specs.Walked.{Walked}
use Rattle.read_engine.specs.Kept.{FollowsPart, FollowsWalkPart, IsKept, IsWalkKept, came_all, has_walk_next, index_kept, walk_moved_on, walk_settled}
use Rattle.read_engine.specs.Taken.{TakesWalks}
use Rattle.read_engine.proofs.Follow.{all_moved, all_reserved, all_settled, same_indexes}
use Rattle.read_engine.proofs.FollowWalks.{takes_walks, walks_settled}
use Rattle.read_engine.proofs.Taken.{all_ready, err_exit, on_err, walks_ready}
use Rattle.read_engine.proofs.step.take_parts.Goals as goal

pub returns-in_err-moved-clause-blamed : goal.returns-in_err-moved-clause-blamed
returns-in_err-moved-clause-blamed g c =
    let judge = state_moved c.args.model.now c.args.parts.now c.args.size (table_of (current_halves c.args.states.now)) in
    err_exit c.from_residual.result (Blames judge IsFreeMove) c.in_err-moved.field-0.0 c.from_residual.ensures.1 c.in_err-moved.ensures.blamed

pub ready_both-requires-clause-coming : goal.ready_both-requires-clause-coming
ready_both-requires-clause-coming g c = subst (AreComing c.args.model.now c.move_state.new.states) (sym c.as_slice-named.ensures) c.in_ok-moved.ensures.moves.coming

pub ready_both-requires-clause-closed : goal.ready_both-requires-clause-closed
ready_both-requires-clause-closed g c = subst (λ (named : List Bool). IsClosed c.args.model.now (table_of (coming_halves c.move_state.new.states named))) (sym c.as_slice-named.ensures) c.in_ok-moved.ensures.moves.closed

pub ready_both-requires-clause-follow : goal.ready_both-requires-clause-follow
ready_both-requires-clause-follow g c =
    subst (λ (named : List Bool). All (FollowsPart c.args.model.now (table_of (coming_halves c.move_state.new.states named)) c.as_slice-past.result.now) c.args.indexes.now) (sym c.as_slice-named.ensures)
    (subst (λ (past : List PastPart). All (FollowsPart c.args.model.now (table_of (coming_halves c.move_state.new.states c.in_ok-moved.moved.named)) past) c.args.indexes.now) (sym c.as_slice-past.ensures)
    (all_ready c.kept_key.ensures c.args.model.now c.args.parts.now c.args.states.now c.move_state.new.states c.in_ok-moved.moved.named c.in_ok-moved.moved.past c.in_ok-moved.ensures.moves c.requires.fits c.requires.closed
    c.args.indexes.now c.requires.kept))

pub ready_both-requires-clause-walks : goal.ready_both-requires-clause-walks
ready_both-requires-clause-walks g c =
    subst (λ (ws : List Walked). All (FollowsWalkPart c.args.model.now (table_of (coming_halves c.move_state.new.states c.as_slice-named.result.now)) c.as_slice-past.result.now) ws) (sym c.as_mut_slice-kept.ensures.value)
    (subst (λ (named : List Bool). All (FollowsWalkPart c.args.model.now (table_of (coming_halves c.move_state.new.states named)) c.as_slice-past.result.now) c.args.walks.now.items) (sym c.as_slice-named.ensures)
    (subst (λ (past : List PastPart). All (FollowsWalkPart c.args.model.now (table_of (coming_halves c.move_state.new.states c.in_ok-moved.moved.named)) past) c.args.walks.now.items) (sym c.as_slice-past.ensures)
    (walks_ready c.step_followed.ensures c.args.model.now c.args.parts.now c.args.states.now c.move_state.new.states c.in_ok-moved.moved.named c.in_ok-moved.moved.past c.in_ok-moved.ensures.moves c.requires.fits c.requires.closed
    c.args.walks.now.items c.requires.walks)))

pub returns-in_err-ready_both-clause-unmoved : goal.returns-in_err-ready_both-clause-unmoved
returns-in_err-ready_both-clause-unmoved g c =
    on_err c.from_residual-in_err-ready_both.result _ (c.in_err-ready_both.ensures.refused ∙ all_settled c.args.model.now (table_of (current_halves c.args.states.now)) c.args.indexes.now c.requires.kept)

pub returns-in_err-ready_both-clause-same : goal.returns-in_err-ready_both-clause-same
returns-in_err-ready_both-clause-same g c =
    ap (map index_kept) (c.in_err-ready_both.ensures.refused ∙ all_settled c.args.model.now (table_of (current_halves c.args.states.now)) c.args.indexes.now c.requires.kept)

pub flip_named-requires : goal.flip_named-requires
flip_named-requires g c = subst (AllZip IsComingLaid c.move_state.new.states) (sym c.as_slice-named.ensures) c.in_ok-moved.ensures.moves.coming.laid

pub turn_all-requires : goal.turn_all-requires
turn_all-requires g c = all_reserved c.args.model.now (table_of (coming_halves c.move_state.new.states c.as_slice-named.result.now)) c.ready_both.new.indexes c.in_ok-ready_both.ensures.reserved

pub returns-clause-takes : goal.returns-clause-takes
returns-clause-takes g c = record {
  mid = c.move_state.new.states;
  named = c.in_ok-moved.moved.named;
  moves = c.in_ok-moved.ensures.moves;
  halves = c.flip_named.ensures.halves ∙ ap (coming_halves c.move_state.new.states) c.as_slice-named.ensures;
  same = c.flip_named.ensures.schemas ∙ c.in_ok-moved.ensures.moves.stays.schemas;
}

pub returns-clause-follow : goal.returns-clause-follow
returns-clause-follow g c =
    subst (λ (halves : List Half). All (IsKept c.args.model.now (table_of halves)) c.turn_all.new.indexes) (sym c.flip_named.ensures.halves)
    (subst (All (IsKept c.args.model.now (table_of (coming_halves c.move_state.new.states c.as_slice-named.result.now)))) (sym c.turn_all.ensures)
    (all_moved c.args.model.now (table_of (current_halves c.args.states.now)) (table_of (coming_halves c.move_state.new.states c.as_slice-named.result.now)) c.ready_both.new.indexes c.args.indexes.now
    c.in_ok-ready_both.ensures.kept c.in_ok-ready_both.ensures.reserved c.requires.kept))

pub returns-clause-same : goal.returns-clause-same
returns-clause-same g c = ap (map index_kept) c.turn_all.ensures ∙ same_indexes c.ready_both.new.indexes c.args.indexes.now c.in_ok-ready_both.ensures.kept

pub returns-in_err-ready_both-clause-part : goal.returns-in_err-ready_both-clause-part
returns-in_err-ready_both-clause-part g c = on_err c.from_residual-in_err-ready_both.result _ (inr record {
  mid = c.move_state.new.states;
  named = c.in_ok-moved.moved.named;
  past = c.in_ok-moved.moved.past;
  moves = c.in_ok-moved.ensures.moves;
  later = c.in_err-ready_both.ensures.bounded.0;
  most = subst (λ (ws : List Walked). c.ready_both.new.steps ≤ c.args.steps.now + came_all c.in_ok-moved.moved.past c.args.indexes.now ws) c.as_mut_slice-kept.ensures.value
      (subst (λ (past : List PastPart). c.ready_both.new.steps ≤ c.args.steps.now + came_all past c.args.indexes.now c.as_mut_slice-kept.result.now) c.as_slice-past.ensures c.in_err-ready_both.ensures.bounded.1);
})

pub returns-in_err-ready_both-clause-unwalked : goal.returns-in_err-ready_both-clause-unwalked
returns-in_err-ready_both-clause-unwalked g c =
    on_err c.from_residual-in_err-ready_both.result _
    (with_items_is c.args.walks.now c.ready_both.new.walks (omega (arith, c.ready_both.auto.walks, c.as_mut_slice-kept.ensures.len))
    ∙ c.in_err-ready_both.ensures.walks_refused
    ∙ ap (map walk_settled) c.as_mut_slice-kept.ensures.value
    ∙ walks_settled c.args.model.now (table_of (current_halves c.args.states.now)) c.args.walks.now.items c.requires.walks)

pub returns-clause-walks : goal.returns-clause-walks
returns-clause-walks g c =
    let table = table_of (coming_halves c.move_state.new.states c.as_slice-named.result.now) in
    let behind : List Walked = map walk_moved_on (filter has_walk_next c.ready_both.new.walks) in
    let turned : c.turn_ready.new.walks.items ≡ behind =
    c.turn_ready.ensures
    ∙ ap (λ (ws : List Walked). map walk_moved_on (filter has_walk_next ws)) (with_items_is c.args.walks.now c.ready_both.new.walks (omega (arith, c.ready_both.auto.walks, c.as_mut_slice-kept.ensures.len)))
    in
    let kept : All (IsWalkKept c.args.model.now (table_of (current_halves c.args.states.now))) c.as_mut_slice-kept.result.now =
    subst (All (IsWalkKept c.args.model.now (table_of (current_halves c.args.states.now)))) (sym c.as_mut_slice-kept.ensures.value) c.requires.walks
    in
    subst (λ (halves : List Half). TakesWalks c.args.model.now (table_of halves) c.args.walks.now.items c.turn_ready.new.walks.items) (sym c.flip_named.ensures.halves)
    (subst (TakesWalks c.args.model.now table c.args.walks.now.items) (sym turned)
    (subst (λ (was : List Walked). TakesWalks c.args.model.now table was behind) c.as_mut_slice-kept.ensures.value
    (takes_walks c.args.model.now table (table_of (current_halves c.args.states.now)) c.ready_both.new.walks c.as_mut_slice-kept.result.now c.in_ok-ready_both.ensures.walks_kept c.in_ok-ready_both.ensures.ready kept)))
