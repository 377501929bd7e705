use Rattle.hollow_script.proofs.Asking.{as_order_halts, as_order_moves, refused_moves}
use Rattle.hollow_script.proofs.script.answer_asked.Goals as goal

pub returns-in-Order-clause-step : goal.returns-in-Order-clause-step
returns-in-Order-clause-step g c =
    as_order_moves (g.S.BlobStore.seen c.args.store.now).held (g.S.BlobStore.seen c.answer_order-answered.new.store).held c.args.keep.now c.answer_order-answered.new.keep c.args.asked c.in-Order.order c.answer_order-answered.result
    c.in-Order.is c.answer_order-answered.ensures.step

pub returns-in-Order-clause-halts : goal.returns-in-Order-clause-halts
returns-in-Order-clause-halts g c =
    as_order_halts (g.S.BlobStore.seen c.args.store.now).held (g.S.BlobStore.seen c.answer_order-answered.new.store).held c.args.keep.now c.args.asked c.in-Order.order c.answer_order-answered.result
    c.in-Order.is c.answer_order-answered.ensures.halts

pub returns-in-Refused-clause-step : goal.returns-in-Refused-clause-step
returns-in-Refused-clause-step g c = refused_moves (g.S.BlobStore.seen c.args.store.now).held c.args.keep.now c.args.asked c.in-Refused.refusal c.in-Refused.is
