use Rattle.consumer_orders.proofs.KeyTexts.{one_more}
use Rattle.consumer_orders.proofs.key_paths.copy_texts.Goals as goal

pub loop-value-preserved : goal.loop-value-preserved
loop-value-preserved c =
    one_more c.args.values.now c.loop-value.value-index c.value-item.result c.loop-value.texts _ c.loop-value-test.true c.value-item.is c.loop-value.invariant c.in_ok-push_text.ensures
