use Rattle.std.proofs.Common.{◌≡◌, ◌+◌, ◌<◌, length, ◌∙◌, sym, subst, arith}
use Rattle.std.specs.Prelude.{◌≢◌, MatchBool}
use Rattle.write_engine.proofs.Changes.{ChangedBelow, below_done, below_push, below_skip}
use Rattle.write_engine.proofs.states.changed_types.Goals as goal
use Rattle.write_engine.proofs.states.changed_types.Goals.{then-is_changed+in_ok-push, else-is_changed}

pub loop-type_index-preserved : goal.loop-type_index-preserved
loop-type_index-preserved c =
    let maps = c.args.maps.now in
    let k = c.loop-type_index.type_index in
    let s = c.index-maps-type_index.result in
    let inside : k < length maps = omega (arith, c.loop-type_index-test.true, c.requires) in
    elim c.if-is_changed.branch [
      | then-is_changed+in_ok-push w ↦ subst (ChangedBelow maps (k + 1)) (sym (w.changed-is ∙ w.in_ok-push.ensures.ok))
          (below_push maps k c.loop-type_index.changed s inside c.index-maps-type_index.is c.loop-type_index.invariant
          (subst (λ b. MatchBool b (s.current ≢ s.previous) (s.current ≡ s.previous)) w.if-is_changed.true c.is_changed.ensures))
      | else-is_changed w ↦ subst (ChangedBelow maps (k + 1)) (sym w.changed-is)
          (below_skip maps k c.loop-type_index.changed s inside c.index-maps-type_index.is c.loop-type_index.invariant
          (subst (λ b. MatchBool b (s.current ≢ s.previous) (s.current ≡ s.previous)) w.if-is_changed.false c.is_changed.ensures))
    ]

pub returns : goal.returns
returns c = below_done c.args.maps.now c.loop-type_index.type_index c.loop-type_index.changed (omega (arith, c.loop-type_index-test.false, c.requires)) c.loop-type_index.invariant
