use Rattle.std.proofs.Common.{sym, ◌∙◌, subst}
use Rattle.hol_plan.specs.Ways.{way_at}
use Rattle.hol_plan.proofs.Following.{Follows, falls, follow_all, follow_more}
use Rattle.hol_plan.proofs.start.follow.Goals as goal

pub loop-step-smaller : goal.loop-step-smaller
loop-step-smaller c = falls (way_at c.args.ways.now) c.loop-step.place c.in-Some.step c.requires.descend (sym c.first_step.ensures ∙ c.in-Some.is)

pub loop-step-preserved : goal.loop-step-preserved
loop-step-preserved c = subst (Follows (way_at c.args.ways.now) c.args.start c.in-Some.step.end c.args.names.now) (sym c.in_ok-push.ensures.ok)
    (follow_more (way_at c.args.ways.now) c.args.start c.loop-step.place c.args.names.now c.loop-step.names c.in-Some.step c.requires.descend (sym c.first_step.ensures ∙ c.in-Some.is) c.loop-step.invariant)

pub returns : goal.returns
returns c = follow_all (way_at c.args.ways.now) c.args.start c.loop-step.place c.args.names.now c.loop-step.names (sym c.first_step.ensures ∙ c.in_default.is) c.loop-step.invariant
