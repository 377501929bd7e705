use Rattle.consumer_orders.proofs.Reading.{reads_cleared, reads_pushed}
use Rattle.consumer_orders.proofs.step_order.keep_before.Goals as goal

pub returns-in-Ok-clause-reading : goal.returns-in-Ok-clause-reading
returns-in-Ok-clause-reading c =
    reads_pushed c.args.consumer.now c.args.to c.in-Some.from c.now-rows.result.schemas c.now-rows.result.table c.left-left.result.parts.now c.args.history.now c.push.new.self c.now-rows.ensures.schemas
    c.now-rows.ensures.table c.now-rows.ensures.position c.left-left.ensures c.requires.closed c.in-Ok.ensures.past c.in-Ok.ensures.stands

pub returns-in-Err-clause-reading : goal.returns-in-Err-clause-reading
returns-in-Err-clause-reading c = reads_cleared c.args.consumer.now c.args.to c.push.new.self c.clear.new.self c.requires.state c.clear.ensures
