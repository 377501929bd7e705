use Rattle.std.proofs.Common.{subst}
use Rattle.std.proofs.lemmas.List.{take_all}
use Rattle.hol_io.specs.declared.name.BlobName.TheVariants.{Snapshot}
use Rattle.hol_plan.specs.Ways.{Reaches, way_at}
use Rattle.hol_plan.proofs.Levels.{grows_new, grows_not, passing_more}
use Rattle.hol_plan.proofs.ways.reach.Goals as goal
use Rattle.hol_plan.proofs.ways.reach.Goals.{then-is_none+in_ok-push, else-is_none}

pub loop-step-preserved : goal.loop-step-preserved
loop-step-preserved c = passing_more c.args.group.now c.loop-step.step-index c.args.distance c.args.ways.now.items c.loop-step.ways.items c.args.next.now.items c.loop-step.next.items c.if-is_none.next.items
    (record { begin = 0; end = 0; name = Snapshot 0 }) c.index.result.now c.chosen.result c.loop-step-test.true c.requires c.index.ensures c.chosen.ensures
    (elim c.if-is_none.branch [
      | then-is_none+in_ok-push w ↦ grows_new _ c.index.result.now c.is_none.result _ _ c.is_none.ensures w.if-is_none.true (cc w.in_ok-push.ensures.items)
      | else-is_none w ↦ grows_not _ c.index.result.now c.is_none.result _ _ c.is_none.ensures w.if-is_none.false (cc)
    ]) c.loop-step.invariant

pub returns-clause-front : goal.returns-clause-front
returns-clause-front c = λ steps end level front leads.
    subst (λ group. Reaches steps end c.args.distance level group (way_at c.args.ways.now.items) (way_at c.loop-step.ways.items) c.loop-step.next.items)
    (take_all c.loop-step.step-index c.args.group.now c.loop-step-test.false) (c.loop-step.invariant.front steps end level front leads)
