use Rattle.std.proofs.Common.{◌≡◌, ◌∷◌, [], ◌++◌, ◌+◌, get_or, subst, sym, rules}
use Rattle.std.specs.List.{All}
use Rattle.std.proofs.lemmas.List.{get_or_default, take_all}
use Rattle.std.proofs.lemmas.List.Sorted.{IsNonDecreasingBy-from_sort_by_key}
use Rattle.hol_io.specs.declared.name.BlobName.TheVariants.{Snapshot}
use Rattle.hol_plan.specs.declared.steps.Step.{Step}
use Rattle.hol_plan.specs.Steps.{HasStep}
use Rattle.hol_plan.proofs.Listing.{Steps, step_more, step_same, steps_sorted}
use Rattle.hol_plan.proofs.steps.steps_of.Goals as goal
use Rattle.hol_plan.proofs.steps.steps_of.Goals.{in-Some+in_ok-push, in_default}

pub loop-name-preserved : goal.loop-name-preserved
loop-name-preserved c =
    let blobs = c.args.blobs.now in
    let i = c.loop-name.name-index in
    let name = get_or blobs i (Snapshot 0) in
    let itself = get_or_default blobs i (Snapshot 0) name c.loop-name-test.true in
    elim c.match-step_of.branch [
      | in-Some+in_ok-push w ↦
          let is : c.match-step_of.steps.items ≡ c.loop-name.steps.items ++ w.in-Some.step ∷ [] = cc w.in_ok-push.ensures.items in
          let joins = w.in-Some.ensures in
          subst (Steps blobs c.args.versions.now (i + 1)) (sym is)
          (step_more blobs c.args.versions.now i c.loop-name.steps.items name w.in-Some.step c.loop-name-test.true itself joins.0 joins.1 c.loop-name.invariant)
      | in_default w ↦
          let is : c.match-step_of.steps.items ≡ c.loop-name.steps.items = cc in
          subst (Steps blobs c.args.versions.now (i + 1)) (sym is)
          (step_same blobs c.args.versions.now i c.loop-name.steps.items name c.loop-name-test.true itself w.in_default.ensures c.loop-name.invariant)
    ]

pub returns : goal.returns
returns c = steps_sorted c.args.blobs.now c.args.versions.now c.loop-name.steps.items c.sort_by_key.new.self.items c.loop-name.invariant.each
    (subst (All (HasStep c.loop-name.steps.items)) (take_all c.loop-name.name-index c.args.blobs.now c.loop-name-test.false) c.loop-name.invariant.whole)
    c.sort_by_key.ensures.permutation (IsNonDecreasingBy-from_sort_by_key (λ (s : Step). s.end) _ c.in_ok-sort_by_key.ensures.sorted (λ a r q k. search rules))
