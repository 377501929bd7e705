use Rattle.std.proofs.Common.{ap, ◌∙◌, subst, sym}
use Rattle.std.specs.Prelude.{IfSome}
use Rattle.write_engine.specs.Production.{Production}
use Rattle.hol_incremental.specs.EditKeys.{AreEditsOf}
use Rattle.state_blobs.specs.Published.{published_of}
use Rattle.hol_orders.specs.Parts.{asked_change}
use Rattle.hol_orders.specs.declared.order_stop.OrderStop.{OrderStop}
use Rattle.change_orders.proofs.Changing.{answers, halts, refuses}
use Rattle.change_orders.proofs.change_order.change_of.Goals as goal

pub returns-in-Ok-clause-step : goal.returns-in-Ok-clause-step
returns-in-Ok-clause-step g c =
    let held = (g.S.BlobStore.seen c.args.store.now).held in
    let held' = (g.S.BlobStore.seen c.run_change-ended.new.store).held in
    answers (asked_change c.args.next.now) held held' c.args.producer.now c.run_change-ended.new.producer c.undo.new.self c.in-Ok.reply OrderStop c.undo.ensures c.in-Ok.ensures.steps

pub returns-in-Err-Refused-clause-step : goal.returns-in-Err-Refused-clause-step
returns-in-Err-Refused-clause-step g c =
    let held = (g.S.BlobStore.seen c.args.store.now).held in
    let held' = (g.S.BlobStore.seen c.run_change-ended.new.store).held in
    let told = rw c.in-Err-Refused.field-0-is at c.in-Err-Refused.ensures.steps in
    refuses (asked_change c.args.next.now) held held' c.args.producer.now c.run_change-ended.new.producer c.undo.new.self c.in-Err-Refused.refusal OrderStop c.undo.ensures c.in-Err-Refused.ensures.kept told

pub returns-clause-halts : goal.returns-clause-halts
returns-clause-halts g c =
    let held = (g.S.BlobStore.seen c.args.store.now).held in
    let held' = (g.S.BlobStore.seen c.run_change-ended.new.store).held in
    let told = rw c.in-Err-Stopped.field-0-is at c.in-Err-Stopped.ensures.steps in
    halts (asked_change c.args.next.now) held held' c.args.producer.now c.run_change-ended.new.producer c.in-Err-Stopped.stop told

pub returns-clause-undone : goal.returns-clause-undone
returns-clause-undone g c = ap published_of c.undo.ensures ∙ c.in-Err-Stopped.ensures.kept

pub returns-in-Ok-clause-edits : goal.returns-in-Ok-clause-edits
returns-in-Ok-clause-edits g c = subst (λ (p : Production). IfSome c.run_change-ended.new.kept (AreEditsOf p.schemas p.previous)) (sym c.undo.ensures) c.in-Ok.ensures.edits

pub returns-in-Err-Refused-clause-edits : goal.returns-in-Err-Refused-clause-edits
returns-in-Err-Refused-clause-edits g c = subst (λ (p : Production). IfSome c.run_change-ended.new.kept (AreEditsOf p.schemas p.previous)) (sym c.undo.ensures) c.in-Err-Refused.ensures.edits

pub returns-clause-edits : goal.returns-clause-edits
returns-clause-edits g c = subst (λ (p : Production). IfSome c.run_change-ended.new.kept (AreEditsOf p.schemas p.previous)) (sym c.undo.ensures) c.in-Err-Stopped.ensures.edits
