use Rattle.std.proofs.Common.{arith, sym}
use Rattle.std.proofs.lemmas.Int.{ints, to_z-of_z}
use Rattle.hol_orders.specs.declared.order_stop.OrderStop.{OrderStop}
use Rattle.consumer_orders.proofs.Reading.{closed_before, has_version, stood_before}
use Rattle.consumer_orders.proofs.Stepping.{moved, not_moved}
use Rattle.consumer_orders.proofs.step_order.move_along.Goals as goal

pub returns-in-Err-clause-step : goal.returns-in-Err-clause-step
returns-in-Err-clause-step g c =
    not_moved OrderStop (g.S.BlobStore.seen c.args.store.now).held c.args.name.now c.args.to c.args.version.now c.args.history.now c.args.consumer.now c.step.new.self c.in-Err.fault c.in_ok-refusal.refusal c.requires.state
    c.in-Err.ensures.refused (sym c.in_ok-refusal.ensures) c.in-Err.ensures.tells

pub keep_before-requires : goal.keep_before-requires
keep_before-requires g c = record {
  state = c.in_default.ensures.state;
  version = has_version c.args.consumer.now c.args.version.now c.args.history.now c.requires.state c.requires.reading;
  stood = stood_before c.args.consumer.now c.step.new.self c.args.version.now c.args.history.now c.requires.state c.requires.reading c.in_default.ensures.follows;
  closed = closed_before c.args.consumer.now c.step.new.self c.args.version.now c.args.history.now c.requires.state c.requires.reading c.in_default.ensures.follows;
}

pub returns-clause-step : goal.returns-clause-step
returns-clause-step g c =
    moved OrderStop (g.S.BlobStore.seen c.args.store.now).held c.args.name.now c.args.to c.args.version.now c.keep_before.new.version c.args.history.now c.keep_before.new.history c.args.consumer.now c.step.new.self c.in-Some.tag _ c.requires.state
    (has_version c.args.consumer.now c.args.version.now c.args.history.now c.requires.state c.requires.reading) c.keep_before.ensures.version (grind (arith, ints, to_z-of_z)) c.in-Some.ensures c.keep_before.ensures.bound c.in_ok-keep_before.ensures.kept
    c.in_default.ensures.tells
