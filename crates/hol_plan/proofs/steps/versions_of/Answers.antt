use Rattle.std.proofs.Common.{◌≡◌, ◌∷◌, [], ◌++◌, ◌+◌, get_or, subst, sym, ◌∙◌}
use Rattle.std.specs.List.{All}
use Rattle.std.proofs.lemmas.List.{get_or_default, take_all}
use Rattle.std.proofs.lemmas.List.Filters.{dedup_is}
use Rattle.hol_io.specs.declared.name.BlobName.TheVariants.{Snapshot}
use Rattle.hol_plan.specs.Steps.{HasEnds}
use Rattle.hol_plan.proofs.Listing.{Lists, list_more, list_same, listed}
use Rattle.hol_plan.proofs.steps.versions_of.Goals as goal
use Rattle.hol_plan.proofs.steps.versions_of.Goals.{in-Some+in_ok-push-2+in_ok-push-3, in_default}

pub loop-name-preserved : goal.loop-name-preserved
loop-name-preserved c =
    let blobs = c.args.blobs.now in
    let i = c.loop-name.name-index in
    let name = get_or blobs i (Snapshot 0) in
    let itself = get_or_default blobs i (Snapshot 0) name c.loop-name-test.true in
    elim c.match-ends.branch [
      | in-Some+in_ok-push-2+in_ok-push-3 w ↦
          let is : c.match-ends.versions.items ≡ (c.loop-name.versions.items ++ w.in-Some.begin ∷ []) ++ w.in-Some.end ∷ [] = cc (w.in_ok-push-2.ensures.items, w.in_ok-push-3.ensures.items) in
          subst (Lists blobs c.args.to (i + 1)) (sym is)
          (list_more blobs c.args.to i c.loop-name.versions.items name w.in-Some.begin w.in-Some.end c.loop-name-test.true itself (sym c.ends.ensures ∙ w.in-Some.is) c.loop-name.invariant)
      | in_default w ↦
          let is : c.match-ends.versions.items ≡ c.loop-name.versions.items = cc in
          subst (Lists blobs c.args.to (i + 1)) (sym is)
          (list_same blobs c.args.to i c.loop-name.versions.items name c.loop-name-test.true itself (sym c.ends.ensures ∙ w.in_default.is) c.loop-name.invariant)
    ]

pub returns : goal.returns
returns c = listed c.args.blobs.now c.args.to c.loop-name.versions.items c.sort.new.self.items c.dedup.new.self.items c.loop-name.invariant.ended
    (subst (All (HasEnds c.loop-name.versions.items)) (take_all c.loop-name.name-index c.args.blobs.now c.loop-name-test.false) c.loop-name.invariant.deltas)
    c.sort.ensures.permutation c.in_ok-sort.ensures.sorted (dedup_is _ _ _ c.dedup.ensures.filtered)
