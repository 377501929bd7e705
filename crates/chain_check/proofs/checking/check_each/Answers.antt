use Rattle.std.proofs.Common.{arith, refl, subst, ◌∙◌, take, get_or, None, Ok, Err, ◌≡◌, ◌+◌, ◌≤◌, sym, ap}
use Rattle.std.specs.Prelude.{Bool, if◌then◌else◌}
use Rattle.std.specs.List.{last_or}
use Rattle.std.proofs.lemmas.List.{take_all}
use Rattle.chain_check.specs.Walk.{Passes, TellsVersion, calls_by}
use Rattle.chain_check.proofs.Passing.{counted_as, counted_more, handed_on, none_counted, passed_more, stopped, told_there}
use Rattle.chain_check.proofs.checking.check_each.Goals as goal
use Rattle.chain_check.proofs.checking.check_each.Goals.{then-branch, else-branch}

pub loop-place-init : goal.loop-place-init
loop-place-init g c = record { passes = refl; counted = none_counted (g.S.BlobStore.seen c.args.store.now).held; few = omega arith; loaded = λ some. absurd (omega (arith, some)); kept = refl; later = omega arith; unput = refl }

pub returns-clause-tells : goal.returns-clause-tells
returns-clause-tells g c =
    subst
    (λ vs. Passes (calls_by g.W.Walk.loads g.W.Walk.steps g.W.Walk.tag g.W.Rows.schemas g.W.Rows.table) (g.S.BlobStore.seen c.args.store.now).held None vs (record { walker = c.args.walker.now; fresh = c.args.fresh.now }) (record { walker = c.loop-place.walker; fresh = c.loop-place.fresh }))
    (take_all c.loop-place.place c.args.versions.now (omega (arith, c.loop-place-test.false))) c.loop-place.invariant.passes

pub returns-in_err-visit-clause-tells : goal.returns-in_err-visit-clause-tells
returns-in_err-visit-clause-tells g c =
    handed_on (calls_by g.W.Walk.loads g.W.Walk.steps g.W.Walk.tag g.W.Rows.schemas g.W.Rows.table) (g.S.BlobStore.seen c.args.store.now).held c.args.versions.now (record { walker = c.args.walker.now; fresh = c.args.fresh.now })
    (record { walker = c.visit.new.walker; fresh = c.visit.new.fresh }) c.in_err-visit.field-0.0 c.from_residual.result c.from_residual.ensures.1
    (stopped (calls_by g.W.Walk.loads g.W.Walk.steps g.W.Walk.tag g.W.Rows.schemas g.W.Rows.table) (g.S.BlobStore.seen c.args.store.now).held c.args.versions.now c.loop-place.place (omega arith) (record { walker = c.args.walker.now; fresh = c.args.fresh.now })
    (record { walker = c.loop-place.walker; fresh = c.loop-place.fresh }) (record { walker = c.visit.new.walker; fresh = c.visit.new.fresh }) c.loop-place.invariant.passes c.in_err-visit.field-0.0
    (subst (λ held. TellsVersion (calls_by g.W.Walk.loads g.W.Walk.steps g.W.Walk.tag g.W.Rows.schemas g.W.Rows.table) held (last_or None (take c.loop-place.place c.args.versions.now)) (get_or c.args.versions.now c.loop-place.place 0) (record { walker = c.loop-place.walker; fresh = c.loop-place.fresh }) (record { walker = c.visit.new.walker; fresh = c.visit.new.fresh }) (Err c.in_err-visit.field-0.0))
    c.loop-place.invariant.kept c.in_err-visit.ensures.tells))

pub loop-place-preserved : goal.loop-place-preserved
loop-place-preserved g c =
    let there = c.in_ok-visit.field-0 in
    let n = c.loop-place.compared in
    let tells =
    subst (λ held. TellsVersion (calls_by g.W.Walk.loads g.W.Walk.steps g.W.Walk.tag g.W.Rows.schemas g.W.Rows.table) held (last_or None (take c.loop-place.place c.args.versions.now)) (get_or c.args.versions.now c.loop-place.place 0) (record { walker = c.loop-place.walker; fresh = c.loop-place.fresh }) (record { walker = c.visit.new.walker; fresh = c.visit.new.fresh }) (Ok there)) c.loop-place.invariant.kept c.in_ok-visit.ensures.tells in
    let told = told_there (calls_by g.W.Walk.loads g.W.Walk.steps g.W.Walk.tag g.W.Rows.schemas g.W.Rows.table) (g.S.BlobStore.seen c.args.store.now).held (last_or None (take c.loop-place.place c.args.versions.now)) (get_or c.args.versions.now c.loop-place.place 0) (record { walker = c.loop-place.walker; fresh = c.loop-place.fresh }) (record { walker = c.visit.new.walker; fresh = c.visit.new.fresh }) there tells in
    let counted = counted_more (g.S.BlobStore.seen c.args.store.now).held c.args.versions.now c.loop-place.place (omega arith) n there c.loop-place.invariant.counted told in
    let is : c.if-branch.compared ≡ (if there then n + 1 else n) = elim c.if-branch.branch [
      | then-branch w ↦ w.compared-is ∙ sym (ap (λ (b : Bool). if b then n + 1 else n) w.if-branch.true)
      | else-branch w ↦ w.compared-is ∙ sym (ap (λ (b : Bool). if b then n + 1 else n) w.if-branch.false)
    ] in
    let few : c.if-branch.compared ≤ n + 1 = elim c.if-branch.branch [
      | then-branch w ↦ omega (arith, w.compared-is)
      | else-branch w ↦ omega (arith, w.compared-is)
    ] in
    record {
      passes = passed_more (calls_by g.W.Walk.loads g.W.Walk.steps g.W.Walk.tag g.W.Rows.schemas g.W.Rows.table) (g.S.BlobStore.seen c.args.store.now).held c.args.versions.now c.loop-place.place (omega arith) (record { walker = c.args.walker.now; fresh = c.args.fresh.now }) (record { walker = c.loop-place.walker; fresh = c.loop-place.fresh }) (record { walker = c.visit.new.walker; fresh = c.visit.new.fresh }) c.loop-place.invariant.passes there tells;
      counted = counted_as (g.S.BlobStore.seen c.args.store.now).held (take (c.loop-place.place + 1) c.args.versions.now) c.if-branch.compared (if there then n + 1 else n) is counted;
      few = omega (arith, few, c.loop-place.invariant.few);
      loaded = λ _. c.in_ok-visit.ensures.loaded;
      kept = c.in_ok-visit.ensures.kept ∙ c.loop-place.invariant.kept;
      later = omega (arith, c.loop-place.invariant.later, c.in_ok-visit.ensures.later);
      unput = c.in_ok-visit.ensures.unput ∙ c.loop-place.invariant.unput;
    }
