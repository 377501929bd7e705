use Rattle.std.proofs.Common.{◌∙◌, ap}
use Rattle.model_rules.specs.RuleTests.{has_chained}
use Rattle.model_rules.proofs.Images.{image_pushed}
use Rattle.model_rules.proofs.chains.next_marks.Goals as goal

pub loop-row-preserved : goal.loop-row-preserved
loop-row-preserved c =
    let marked = c.has_marked.ensures ∙ ap (has_chained c.args.marks.now) c.as_slice.ensures in
    image_pushed (has_chained c.args.marks.now) c.args.graph.now c.loop-row.row-index c.row-item.result c.has_marked.result c.loop-row.next.items c.push.new.self.items
    c.loop-row-test.true c.row-item.is marked c.loop-row.invariant c.in_ok-push.ensures.items
