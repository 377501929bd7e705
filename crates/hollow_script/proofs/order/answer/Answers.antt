use Rattle.std.proofs.Common.{refl, subst, sym}
use Rattle.hol_orders.specs.Order.{IsOrder}
use Rattle.hollow_machine.specs.Kept.{reader_of}
use Rattle.hollow_machine.specs.Puts.{MayPut, OrderPuts}
use Rattle.hollow_script.proofs.Looking.{of_reader}
use Rattle.hollow_script.proofs.Ordering.{change_halts, change_moves, checks, cycle_halts, cycle_moves, grow_moves, model_moves, reader_moves, restore_moves, same_published, stays_halts, still_published}
use Rattle.hollow_script.specs.Kept.{kept_of}
use Rattle.hollow_script.proofs.order.answer.Goals as goal

pub model-requires-clause-schemas : goal.model-requires-clause-schemas
model-requires-clause-schemas g c = subst IsOrder c.in-Model.is c.requires.order

pub cycle-requires-clause-order : goal.cycle-requires-clause-order
cycle-requires-clause-order g c = subst IsOrder c.in-Cycle.is c.requires.order

pub returns-in-Model-clause-step : goal.returns-in-Model-clause-step
returns-in-Model-clause-step g c =
    model_moves (g.S.BlobStore.seen c.args.store.now).held (kept_of c.args.keep.now) c.model.new.producer c.args.order.now c.model.result c.in-Model.schemas c.in-Model.is c.model.ensures.step

pub grow-requires-clause-schemas : goal.grow-requires-clause-schemas
grow-requires-clause-schemas g c = subst IsOrder c.in-Grow.is c.requires.order

pub returns-in-Grow-clause-step : goal.returns-in-Grow-clause-step
returns-in-Grow-clause-step g c =
    grow_moves (g.S.BlobStore.seen c.args.store.now).held (kept_of c.args.keep.now) c.grow.new.producer c.args.order.now c.grow.result c.in-Grow.schemas c.in-Grow.is c.grow.ensures.step

pub returns-in-Cycle-clause-step : goal.returns-in-Cycle-clause-step
returns-in-Cycle-clause-step g c =
    cycle_moves (g.S.BlobStore.seen c.args.store.now).held (kept_of c.args.keep.now) c.cycle.new.producer c.args.order.now c.cycle.result
    (g.S.BlobStore.seen c.cycle.new.store).held c.in-Cycle.next c.in-Cycle.is c.cycle.ensures.step

pub change-requires-clause-order : goal.change-requires-clause-order
change-requires-clause-order g c = subst IsOrder c.in-Change.is c.requires.order

pub returns-in-Change-clause-step : goal.returns-in-Change-clause-step
returns-in-Change-clause-step g c =
    change_moves (g.S.BlobStore.seen c.args.store.now).held (kept_of c.args.keep.now) c.change.new.producer c.args.order.now c.change.result
    (g.S.BlobStore.seen c.change.new.store).held c.in-Change.next c.in-Change.is c.change.ensures.step

pub restore-requires-clause-order : goal.restore-requires-clause-order
restore-requires-clause-order g c = subst IsOrder c.in-Restore.is c.requires.order

pub returns-in-Restore-clause-step : goal.returns-in-Restore-clause-step
returns-in-Restore-clause-step g c =
    restore_moves (g.S.BlobStore.seen c.args.store.now).held (g.S.BlobStore.seen c.restore.new.store).held (kept_of c.args.keep.now) c.restore.new.producer c.args.order.now
    c.restore.result c.in-Restore.version c.in-Restore.is c.restore.ensures.step

pub check-requires : goal.check-requires
check-requires g c = record { walk = subst IsOrder c.in-Check.is c.requires.order }

pub returns-in-Check-clause-step : goal.returns-in-Check-clause-step
returns-in-Check-clause-step g c =
    checks (g.S.BlobStore.seen c.args.store.now).held (g.S.BlobStore.seen c.check.new.store).held (kept_of c.args.keep.now) c.args.order.now c.in-Check.versions c.check.result
    c.in-Check.is c.check.ensures.held c.check.ensures.reply

pub answer_reader-requires-clause-reader : goal.answer_reader-requires-clause-reader
answer_reader-requires-clause-reader g c =
    of_reader c.args.order.now c.in_default.not-Model c.in_default.not-Cycle c.in_default.not-Restore c.in_default.not-Check c.in_default.not-Grow c.in_default.not-Change

pub returns-in_default-clause-step : goal.returns-in_default-clause-step
returns-in_default-clause-step g c =
    reader_moves (g.S.BlobStore.seen c.args.store.now).held (g.S.BlobStore.seen c.answer_reader.new.store).held (kept_of c.args.keep.now)
    (reader_of c.answer_reader.new.consumer c.answer_reader.new.version c.answer_reader.new.history) c.args.order.now c.answer_reader.result c.answer_reader.ensures.held c.answer_reader.ensures.step

-- ---- where it stops

pub returns-in-Model-clause-halts : goal.returns-in-Model-clause-halts
returns-in-Model-clause-halts g c =
    let held = (g.S.BlobStore.seen c.args.store.now).held in
    stays_halts (OrderPuts c.args.order.now) held held (kept_of c.args.keep.now) c.model.result refl

pub returns-in-Grow-clause-halts : goal.returns-in-Grow-clause-halts
returns-in-Grow-clause-halts g c =
    let held = (g.S.BlobStore.seen c.args.store.now).held in
    stays_halts (OrderPuts c.args.order.now) held held (kept_of c.args.keep.now) c.grow.result refl

pub returns-in-Restore-clause-halts : goal.returns-in-Restore-clause-halts
returns-in-Restore-clause-halts g c =
    let held = (g.S.BlobStore.seen c.args.store.now).held in
    stays_halts (OrderPuts c.args.order.now) held (g.S.BlobStore.seen c.restore.new.store).held (kept_of c.args.keep.now) c.restore.result c.restore.ensures.held

pub returns-in-Check-clause-halts : goal.returns-in-Check-clause-halts
returns-in-Check-clause-halts g c =
    let held = (g.S.BlobStore.seen c.args.store.now).held in
    stays_halts (OrderPuts c.args.order.now) held (g.S.BlobStore.seen c.check.new.store).held (kept_of c.args.keep.now) c.check.result c.check.ensures.held

pub returns-in_default-clause-halts : goal.returns-in_default-clause-halts
returns-in_default-clause-halts g c =
    let held = (g.S.BlobStore.seen c.args.store.now).held in
    stays_halts (OrderPuts c.args.order.now) held (g.S.BlobStore.seen c.answer_reader.new.store).held (kept_of c.args.keep.now) c.answer_reader.result c.answer_reader.ensures.held

pub returns-in-Cycle-clause-halts : goal.returns-in-Cycle-clause-halts
returns-in-Cycle-clause-halts g c =
    cycle_halts (g.S.BlobStore.seen c.args.store.now).held (g.S.BlobStore.seen c.cycle.new.store).held (kept_of c.args.keep.now) c.args.order.now c.cycle.result
    c.in-Cycle.next c.in-Cycle.is c.cycle.ensures.halts

pub returns-in-Change-clause-halts : goal.returns-in-Change-clause-halts
returns-in-Change-clause-halts g c =
    change_halts (g.S.BlobStore.seen c.args.store.now).held (g.S.BlobStore.seen c.change.new.store).held (kept_of c.args.keep.now) c.args.order.now c.change.result
    c.in-Change.next c.in-Change.is c.change.ensures.halts

pub returns-in-Change-clause-quiet : goal.returns-in-Change-clause-quiet
returns-in-Change-clause-quiet g c = λ not. absurd (not (subst MayPut (sym c.in-Change.is) refl))

pub returns-in-Cycle-clause-quiet : goal.returns-in-Cycle-clause-quiet
returns-in-Cycle-clause-quiet g c = λ not. absurd (not (subst MayPut (sym c.in-Cycle.is) refl))

-- ---- the producer, where it stops

pub returns-in-Model-clause-undone : goal.returns-in-Model-clause-undone
returns-in-Model-clause-undone g c = still_published c.args.keep.now.producer c.model.new.producer c.model.result c.model.ensures.stopped

pub returns-in-Grow-clause-undone : goal.returns-in-Grow-clause-undone
returns-in-Grow-clause-undone g c = still_published c.args.keep.now.producer c.grow.new.producer c.grow.result c.grow.ensures.stopped

pub returns-in-Restore-clause-undone : goal.returns-in-Restore-clause-undone
returns-in-Restore-clause-undone g c = still_published c.args.keep.now.producer c.restore.new.producer c.restore.result c.restore.ensures.stopped

pub returns-in-Check-clause-undone : goal.returns-in-Check-clause-undone
returns-in-Check-clause-undone g c = same_published c.args.keep.now.producer c.check.result

pub returns-in_default-clause-undone : goal.returns-in_default-clause-undone
returns-in_default-clause-undone g c = same_published c.args.keep.now.producer c.answer_reader.result
