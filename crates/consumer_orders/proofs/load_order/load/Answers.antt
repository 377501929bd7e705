use Rattle.std.proofs.Common.{arith, sym, subst}
use Rattle.std.specs.Prelude.{Option}
use Rattle.std.proofs.lemmas.Int.{ints, to_z-of_z}
use Rattle.hol_orders.specs.declared.order_stop.OrderStop.{OrderStop}
use Rattle.hollow_machine.specs.Kept.{IsReader, reader_of}
use Rattle.read_engine.specs.Position.{Position}
use Rattle.consumer_orders.proofs.Loading.{loaded, not_loaded}
use Rattle.consumer_orders.proofs.Reading.{reads_cleared}
use Rattle.consumer_orders.proofs.load_order.load.Goals as goal

pub returns-in-Err-clause-step : goal.returns-in-Err-clause-step
returns-in-Err-clause-step g c =
    not_loaded OrderStop (g.S.BlobStore.seen c.args.store.now).held c.args.wanted c.args.version.now c.args.history.now c.args.consumer.now c.load.new.self c.in-Err.fault c.in_ok-refusal.refusal
    c.in-Err.ensures.refused (sym c.in_ok-refusal.ensures) c.in-Err.ensures.tells

pub returns-in-Err-clause-reading : goal.returns-in-Err-clause-reading
returns-in-Err-clause-reading g c = λ reads.
    subst (λ (now : Option Position). IsReader (reader_of now c.args.version.now c.args.history.now)) (sym c.in-Err.ensures.refused) reads

pub returns-clause-step : goal.returns-clause-step
returns-clause-step g c =
    loaded OrderStop (g.S.BlobStore.seen c.args.store.now).held c.args.wanted c.args.version.now c.args.history.now c.clear.new.self c.args.consumer.now c.load.new.self c.in-Some.tag _
    (grind (arith, ints, to_z-of_z)) c.in-Some.ensures c.clear.ensures c.in_default.ensures.tells

pub returns-clause-reading : goal.returns-clause-reading
returns-clause-reading g c = λ reads. reads_cleared c.load.new.self c.args.wanted c.args.history.now c.clear.new.self c.in_default.ensures.state c.clear.ensures
