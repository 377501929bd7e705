use Rattle.std.proofs.Common.{sym, ap, ◌∙◌, add-one, map}
use Rattle.model_rules.specs.RuleTests.{chained, has_chained}
use Rattle.model_rules.proofs.chains.marks_after.Goals as goal

pub loop-round-preserved : goal.loop-round-preserved
unfolding chained
loop-round-preserved c =
    c.in_ok-marks-2.ensures ∙ ap (λ marks. map (has_chained marks) c.args.graph.now) (c.as_slice.ensures.value ∙ c.loop-round.invariant)
    ∙ ap (chained c.args.graph.now) (sym (add-one c.loop-round.round))
