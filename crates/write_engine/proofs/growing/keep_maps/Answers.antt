use Rattle.std.proofs.Common.{◌+◌, ◌<◌, ◌≤◌, List, length, sym, ap, subst, ◌∙◌, arith, slice_set}
use Rattle.std.proofs.lemmas.Bool.{false≢true}
use Rattle.ordinal_map.specs.States.{States}
use Rattle.write_engine.specs.Grown.{AreKept}
use Rattle.write_engine.proofs.GrownStates.{kept_current, kept_previous, kept_producing, kept_skip, kept_start, kept_swap}
use Rattle.write_engine.proofs.GrownTypes.{type_there}
use Rattle.write_engine.proofs.growing.keep_maps.Goals as goal
use Rattle.write_engine.proofs.growing.keep_maps.Goals.{then-has_stayed, else-has_stayed}

pub loop-type_index-init : goal.loop-type_index-init
loop-type_index-init c = kept_start c.args.model.now c.args.grown.now c.args.maps.now c.args.fresh.now c.requires.fresh

pub bounds-fresh-place : goal.bounds-fresh-place
bounds-fresh-place c =
    let inside : c.loop-type_index.type_index < length c.args.model.now = omega (arith, c.loop-type_index-test.true, c.len-type_index-end.ensures.count) in
    omega (arith, c.loop-type_index.invariant.many, type_there c.args.model.now c.args.grown.now c.requires.may.grows c.loop-type_index.type_index inside)

pub loop-type_index-preserved : goal.loop-type_index-preserved
loop-type_index-preserved c =
    let own = c.args.model.now in
    let grown = c.args.grown.now in
    let maps = c.args.maps.now in
    let left = c.loop-type_index.maps in
    let fresh = c.loop-type_index.fresh in
    let k = c.loop-type_index.type_index in
    let inside : k < length own = omega (arith, c.loop-type_index-test.true, c.len-type_index-end.ensures.count) in
    let below : k < length fresh = omega (arith, c.loop-type_index.invariant.many, type_there own grown c.requires.may.grows k inside) in
    elim c.if-has_stayed.branch [
      | then-has_stayed w ↦ subst (λ (xs : List States). AreKept own grown maps xs c.if-has_stayed.fresh (k + 1)) (sym w.maps-is)
          (subst (λ (xs : List States). AreKept own grown maps (slice_set left k w.swap.new.x) xs (k + 1)) (sym (w.fresh-is ∙ ap (slice_set fresh k) (w.swap.ensures.y_after ∙ sym w.index-maps-place.is)))
          (kept_swap own grown maps k left fresh c.loop-type_index.invariant w.index-maps-place.result w.swap.new.x c.requires.may inside below (c.has_stayed.ensures.0 w.if-has_stayed.true) w.index-maps-place.is))
      | else-has_stayed w ↦ subst (λ (xs : List States). AreKept own grown maps xs c.if-has_stayed.fresh (k + 1)) (sym w.maps-is)
          (subst (λ (xs : List States). AreKept own grown maps left xs (k + 1)) (sym w.fresh-is)
          (kept_skip own grown maps k left fresh c.loop-type_index.invariant (λ stayed. false≢true (sym w.if-has_stayed.false ∙ c.has_stayed.ensures.1 stayed))))
    ]

pub returns-clause-producing : goal.returns-clause-producing
returns-clause-producing c =
    let past : length c.args.model.now ≤ c.loop-type_index.type_index = omega (arith, c.loop-type_index-test.false, c.len-type_index-end.ensures.count) in
    kept_producing c.args.model.now c.args.grown.now c.args.maps.now c.loop-type_index.type_index c.loop-type_index.maps c.loop-type_index.fresh c.loop-type_index.invariant past c.requires.may

pub returns-clause-previous : goal.returns-clause-previous
returns-clause-previous c =
    let past : length c.args.model.now ≤ c.loop-type_index.type_index = omega (arith, c.loop-type_index-test.false, c.len-type_index-end.ensures.count) in
    kept_previous c.args.model.now c.args.grown.now c.args.maps.now c.loop-type_index.type_index c.loop-type_index.maps c.loop-type_index.fresh c.loop-type_index.invariant past

pub returns-clause-current : goal.returns-clause-current
returns-clause-current c =
    let past : length c.args.model.now ≤ c.loop-type_index.type_index = omega (arith, c.loop-type_index-test.false, c.len-type_index-end.ensures.count) in
    kept_current c.args.model.now c.args.grown.now c.args.maps.now c.loop-type_index.type_index c.loop-type_index.maps c.loop-type_index.fresh c.loop-type_index.invariant past
