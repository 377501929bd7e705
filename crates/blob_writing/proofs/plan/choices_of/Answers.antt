use Rattle.blob_writing.proofs.Planning.{choice_pushed}
use Rattle.blob_writing.proofs.plan.choices_of.Goals as goal

pub loop-one-preserved : goal.loop-one-preserved
loop-one-preserved c =
    choice_pushed c.args.measured.now c.loop-one.one-index c.one-item.result c.in_ok-copy.field-0 c.loop-one.choices _ c.loop-one-test.true c.one-item.is c.in_ok-copy.ensures c.loop-one.invariant
    c.in_ok-push.ensures.ok
