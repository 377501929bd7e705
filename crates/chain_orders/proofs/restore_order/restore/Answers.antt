use Rattle.std.proofs.Common.{subst, ◌∙◌}
use Rattle.hol_orders.specs.declared.order_stop.OrderStop.{OrderStop}
use Rattle.chain_orders.proofs.Restoring.{TellsLast, moved, not_last, not_loaded, told_before}
use Rattle.chain_orders.proofs.restore_order.restore.Goals as goal

pub returns-in-Some-clause-step : goal.returns-in-Some-clause-step
returns-in-Some-clause-step g c =
    let held = (g.S.BlobStore.seen c.args.store.now).held in
    not_last OrderStop c.args.version held (g.S.BlobStore.seen c.why_not_last.new.store).held c.args.producer.now c.in-Some.refusal c.in_ok-refusal.ensures.kept
    (subst (TellsLast held c.args.version) c.in-Some.is c.in_ok-refusal.ensures.tells)

pub returns-in-Ok-clause-step : goal.returns-in-Ok-clause-step
returns-in-Ok-clause-step g c =
    let held = (g.S.BlobStore.seen c.args.store.now).held in
    moved OrderStop c.args.version held (g.S.BlobStore.seen c.stored_snapshot.new.store).held c.in-Ok.loaded c.args.producer.now c.restore_from.new.producer c.restore_from.result
    (c.in_ok-loaded.ensures.held ∙ c.in_ok-refusal.ensures.kept)
    (subst (TellsLast held c.args.version) c.in_default.is c.in_ok-refusal.ensures.tells)
    (told_before held (g.S.BlobStore.seen c.why_not_last.new.store).held c.args.version c.in_ok-loaded.field-0 _ c.in_ok-refusal.ensures.kept c.in-Ok.is c.in_ok-loaded.ensures.tells)
    c.restore_from.ensures.restored

pub returns-in-Err-clause-step : goal.returns-in-Err-clause-step
returns-in-Err-clause-step g c =
    let held = (g.S.BlobStore.seen c.args.store.now).held in
    not_loaded OrderStop c.args.version held (g.S.BlobStore.seen c.stored_snapshot.new.store).held c.args.producer.now c.in-Err.refusal
    (c.in_ok-loaded.ensures.held ∙ c.in_ok-refusal.ensures.kept)
    (subst (TellsLast held c.args.version) c.in_default.is c.in_ok-refusal.ensures.tells)
    (told_before held (g.S.BlobStore.seen c.why_not_last.new.store).held c.args.version c.in_ok-loaded.field-0 _ c.in_ok-refusal.ensures.kept c.in-Err.is c.in_ok-loaded.ensures.tells)
