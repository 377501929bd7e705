use Rattle.std.proofs.Common.{◌∙◌, arith, rules}
use Rattle.hol_orders.specs.declared.order_stop.OrderStop.{OrderStop}
use Rattle.hollow_machine.specs.Kept.{reader_of}
use Rattle.plan_orders.proofs.Going.{all_gone, gone_to_refused, one_gone}
use Rattle.plan_orders.proofs.goto_order.go_along.Goals as goal

pub returns-in-Some-clause-goes : goal.returns-in-Some-clause-goes
returns-in-Some-clause-goes g c =
    gone_to_refused OrderStop (reader_of c.args.consumer.now c.args.version.now c.args.history.now) (reader_of c.loop-name.consumer c.loop-name.version c.loop-name.history)
    (reader_of c.apply.new.consumer c.apply.new.version c.apply.new.history) c.args.names.now c.loop-name.applied c.loop-name.name-index _ c.loop-name-test.true (search rules) (g.S.BlobStore.seen c.args.store.now).held
    (g.S.BlobStore.seen c.loop-name.store).held c.loop-name.invariant.0 c.in_ok-reply.reply c.in-Some.refusal c.in-Some.ensures c.in_ok-reply.ensures.step c.loop-name.invariant.4

pub loop-name-preserved : goal.loop-name-preserved
loop-name-preserved g c = (
  c.in_ok-reply.ensures.held ∙ c.loop-name.invariant.0,
  c.in_ok-reply.ensures.puts ∙ c.loop-name.invariant.1,
  omega (arith, c.loop-name.invariant.2, c.in_ok-reply.ensures.later),
  c.in_ok-reply.ensures.reading,
  one_gone OrderStop (reader_of c.args.consumer.now c.args.version.now c.args.history.now) (reader_of c.loop-name.consumer c.loop-name.version c.loop-name.history)
      (reader_of c.apply.new.consumer c.apply.new.version c.apply.new.history) c.args.names.now c.loop-name.applied c.loop-name.name-index _ c.loop-name-test.true (search rules) (g.S.BlobStore.seen c.args.store.now).held
      (g.S.BlobStore.seen c.loop-name.store).held c.loop-name.invariant.0 c.in_ok-reply.reply c.in_default.ensures c.in_ok-reply.ensures.step c.loop-name.invariant.4,
)

pub returns-clause-goes : goal.returns-clause-goes
returns-clause-goes g c =
    all_gone (g.S.BlobStore.seen c.args.store.now).held (reader_of c.args.consumer.now c.args.version.now c.args.history.now) (reader_of c.loop-name.consumer c.loop-name.version c.loop-name.history)
    c.args.names.now c.loop-name.applied c.loop-name.name-index c.loop-name-test.false c.loop-name.invariant.4
