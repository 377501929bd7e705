use Rattle.hol_history.proofs.Taken.{parts_more}
use Rattle.hol_history.proofs.step.Step.of.Goals as goal

pub loop-type_index-preserved : goal.loop-type_index-preserved
loop-type_index-preserved g c = parts_more (g.L.LeftRows.past c.args.before.now) c.loop-type_index.parts c.push.new.self c.loop-type_index.type_index c.in_ok-of.field-0 c.loop-type_index.invariant c.in_ok-of.ensures c.in_ok-push.ensures.ok
