use Rattle.std.proofs.Common.{Ok, refl}
use Rattle.hol_orders.specs.declared.order.Order.TheVariants as order
use Rattle.hollow_machine.specs.Kept.{kept_with_reader, reader_of}
use Rattle.hollow_script.proofs.Looking.{looks_back}
use Rattle.hollow_script.proofs.Ordering.{reads_as, stays}
use Rattle.hollow_script.proofs.order.answer_reader.Goals as goal

pub returns-in-Load-clause-step : goal.returns-in-Load-clause-step
returns-in-Load-clause-step g c =
    reads_as (g.S.BlobStore.seen c.args.store.now).held (reader_of c.args.consumer.now c.args.version.now c.args.history.now) (reader_of c.load.new.consumer c.load.new.version c.load.new.history)
    c.args.order.now (order.Load c.in-Load.wanted) c.load.result c.in-Load.is c.load.ensures.step

pub returns-in-Step-clause-step : goal.returns-in-Step-clause-step
returns-in-Step-clause-step g c =
    reads_as (g.S.BlobStore.seen c.args.store.now).held (reader_of c.args.consumer.now c.args.version.now c.args.history.now) (reader_of c.step.new.consumer c.step.new.version c.step.new.history)
    c.args.order.now (order.Step c.in-Step.from c.in-Step.to) c.step.result c.in-Step.is c.step.ensures.step

pub returns-in-Plan-clause-step : goal.returns-in-Plan-clause-step
returns-in-Plan-clause-step g c =
    let reader = reader_of c.args.consumer.now c.args.version.now c.args.history.now in
    reads_as (g.S.BlobStore.seen c.args.store.now).held reader reader c.args.order.now (order.Plan c.in-Plan.wanted) c.plan.result c.in-Plan.is
    (λ kept. c.plan.ensures.step (kept_with_reader kept reader) refl)

pub returns-in-Goto-clause-step : goal.returns-in-Goto-clause-step
returns-in-Goto-clause-step g c =
    reads_as (g.S.BlobStore.seen c.args.store.now).held (reader_of c.args.consumer.now c.args.version.now c.args.history.now) (reader_of c.goto.new.consumer c.goto.new.version c.goto.new.history)
    c.args.order.now (order.Goto c.in-Goto.wanted) c.goto.result c.in-Goto.is c.goto.ensures.step

pub returns-in-Index-clause-step : goal.returns-in-Index-clause-step
returns-in-Index-clause-step g c =
    let held = (g.S.BlobStore.seen c.args.store.now).held in
    reads_as held (reader_of c.args.consumer.now c.args.version.now c.args.history.now) (reader_of c.index.new.consumer c.args.version.now c.args.history.now)
    c.args.order.now (order.Index c.in-Index.type_name c.in-Index.paths) c.index.result c.in-Index.is (c.index.ensures.step held c.args.version.now c.args.history.now)

pub returns-in-WalkIndex-clause-step : goal.returns-in-WalkIndex-clause-step
returns-in-WalkIndex-clause-step g c =
    let held = (g.S.BlobStore.seen c.args.store.now).held in
    reads_as held (reader_of c.args.consumer.now c.args.version.now c.args.history.now) (reader_of c.walk_index.new.consumer c.args.version.now c.args.history.now)
    c.args.order.now (order.WalkIndex c.in-WalkIndex.type_name c.in-WalkIndex.path) c.walk_index.result c.in-WalkIndex.is (c.walk_index.ensures.step held c.args.version.now c.args.history.now)

pub returns-in-History-clause-step : goal.returns-in-History-clause-step
returns-in-History-clause-step g c =
    let held = (g.S.BlobStore.seen c.args.store.now).held in
    reads_as held (reader_of c.args.consumer.now c.args.version.now c.args.history.now) (reader_of c.args.consumer.now c.args.version.now c.history.new.history)
    c.args.order.now (order.History c.in-History.bound) (Ok c.history.result) c.in-History.is (c.history.ensures.step held c.args.consumer.now c.args.version.now)

pub look_back-requires-clause-order : goal.look_back-requires-clause-order
look_back-requires-clause-order g c =
    looks_back c.args.order.now c.requires.reader c.in_default.not-Load c.in_default.not-Step c.in_default.not-Plan c.in_default.not-Goto c.in_default.not-Index c.in_default.not-History c.in_default.not-WalkIndex

pub returns-in_default-clause-step : goal.returns-in_default-clause-step
returns-in_default-clause-step g c =
    stays (g.S.BlobStore.seen c.args.store.now).held (reader_of c.args.consumer.now c.args.version.now c.args.history.now) c.args.order.now c.look_back.result c.look_back.ensures.reply

-- ---- the history leads to where the consumer stands

pub returns-in-Load-clause-reading : goal.returns-in-Load-clause-reading
returns-in-Load-clause-reading g c = c.load.ensures.reading c.requires.reading

pub returns-in-Index-clause-reading : goal.returns-in-Index-clause-reading
returns-in-Index-clause-reading g c = c.index.ensures.reading c.args.version.now c.args.history.now c.requires.reading

pub returns-in-WalkIndex-clause-reading : goal.returns-in-WalkIndex-clause-reading
returns-in-WalkIndex-clause-reading g c = c.walk_index.ensures.reading c.args.version.now c.args.history.now c.requires.reading

pub returns-in-History-clause-reading : goal.returns-in-History-clause-reading
returns-in-History-clause-reading g c = c.history.ensures.reading c.args.consumer.now c.args.version.now c.requires.reading
