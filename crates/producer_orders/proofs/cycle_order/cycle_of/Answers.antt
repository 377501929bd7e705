use Rattle.std.proofs.Common.{Err, Ok, ap, ◌∙◌}
use Rattle.write_engine.specs.Production.{Production}
use Rattle.state_blobs.specs.Published.{published_of}
use Rattle.producer_orders.specs.Asked.{asked_of}
use Rattle.producer_orders.specs.Making.{Steps}
use Rattle.hol_orders.specs.declared.order_stop.OrderStop.{OrderStop}
use Rattle.producer_orders.specs.declared.cycle_end.CycleEnd.TheVariants.{Refused, Stopped}
use Rattle.state_blobs.proofs.Tags.{at_tag}
use Rattle.producer_orders.proofs.Cycling.{answers, halts, refuses}
use Rattle.producer_orders.proofs.cycle_order.cycle_of.Goals as goal

pub returns-in-Ok-clause-step : goal.returns-in-Ok-clause-step
returns-in-Ok-clause-step g c =
    let held = (g.S.BlobStore.seen c.args.store.now).held in
    let held' = (g.S.BlobStore.seen c.run_cycle-ended.new.store).held in
    let old = c.args.producer.now in
    let mid = c.run_cycle-ended.new.producer in
    let steps = at_tag (λ t. Steps (asked_of c.args.version t c.args.with_snapshot c.args.records.now) held (published_of old) held' (published_of mid) (Ok c.in-Ok.reply)) c.args.tag c.ranges.tag c.in-Ok.ensures.steps in
    answers (asked_of c.args.version c.args.tag c.args.with_snapshot c.args.records.now) held held' old mid c.undo.new.self c.in-Ok.reply OrderStop c.undo.ensures steps

pub returns-in-Err-Refused-clause-step : goal.returns-in-Err-Refused-clause-step
returns-in-Err-Refused-clause-step g c =
    let held = (g.S.BlobStore.seen c.args.store.now).held in
    let held' = (g.S.BlobStore.seen c.run_cycle-ended.new.store).held in
    let old = c.args.producer.now in
    let mid = c.run_cycle-ended.new.producer in
    let told = rw c.in-Err-Refused.field-0-is at c.in-Err-Refused.ensures.steps in
    let steps = at_tag (λ t. Steps (asked_of c.args.version t c.args.with_snapshot c.args.records.now) held (published_of old) held' (published_of mid) (Err (Refused c.in-Err-Refused.refusal))) c.args.tag c.ranges.tag told in
    refuses (asked_of c.args.version c.args.tag c.args.with_snapshot c.args.records.now) held held' old mid c.undo.new.self c.in-Err-Refused.refusal OrderStop c.undo.ensures c.in-Err-Refused.ensures.kept steps

pub returns-in-Err-Stopped-clause-halts : goal.returns-in-Err-Stopped-clause-halts
returns-in-Err-Stopped-clause-halts g c =
    let held = (g.S.BlobStore.seen c.args.store.now).held in
    let held' = (g.S.BlobStore.seen c.run_cycle-ended.new.store).held in
    let old = c.args.producer.now in
    let mid = c.run_cycle-ended.new.producer in
    let told = rw c.in-Err-Stopped.field-0-is at c.in-Err-Stopped.ensures.steps in
    let steps = at_tag (λ t. Steps (asked_of c.args.version t c.args.with_snapshot c.args.records.now) held (published_of old) held' (published_of mid) (Err (Stopped c.in-Err-Stopped.stop))) c.args.tag c.ranges.tag told in
    halts (asked_of c.args.version c.args.tag c.args.with_snapshot c.args.records.now) held held' old mid c.in-Err-Stopped.stop steps

pub returns-in-Err-Stopped-clause-undone : goal.returns-in-Err-Stopped-clause-undone
returns-in-Err-Stopped-clause-undone g c = ap published_of c.undo.ensures ∙ c.in-Err-Stopped.ensures.kept

pub returns-in-Ok-clause-model : goal.returns-in-Ok-clause-model
returns-in-Ok-clause-model g c = ap (λ (p : Production). p.schemas) c.undo.ensures ∙ c.in-Ok.ensures.model

pub returns-in-Err-Refused-clause-model : goal.returns-in-Err-Refused-clause-model
returns-in-Err-Refused-clause-model g c = ap (λ (p : Production). p.schemas) c.undo.ensures ∙ c.in-Err-Refused.ensures.model

pub returns-in-Err-Stopped-clause-model : goal.returns-in-Err-Stopped-clause-model
returns-in-Err-Stopped-clause-model g c = ap (λ (p : Production). p.schemas) c.undo.ensures ∙ c.in-Err-Stopped.ensures.model
