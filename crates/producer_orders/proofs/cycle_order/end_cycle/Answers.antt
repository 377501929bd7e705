use Rattle.std.proofs.Common.{Err, List, Ok, inl, inr, refl, subst}
use Rattle.std.proofs.lemmas.Result.{err_from_is_err_and}
use Rattle.schema_model.specs.declared.schema.Schema.{Schema}
use Rattle.hollow_machine.specs.CycleOrder.{AreNamed, Publishes}
use Rattle.state_blobs.specs.Published.{published_of}
use Rattle.producer_orders.specs.Making.{EndsPublished}
use Rattle.hol_orders.specs.declared.order_stop.OrderStop.TheVariants as stop
use Rattle.state_blobs.proofs.Tags.{at_tag}
use Rattle.producer_orders.proofs.Cycling.{changes, not_published, published, stops_unpublished, unpublished}
use Rattle.producer_orders.proofs.cycle_order.end_cycle.Goals as goal
use Rattle.producer_orders.proofs.cycle_order.end_cycle.Goals.{else-not-closed-via-then-not-closed+else-is_empty, else-not-closed-via-else-not-closed}

pub returns-in_err-changed-clause-ends : goal.returns-in_err-changed-clause-ends
returns-in_err-changed-clause-ends g c =
    let p = err_from_is_err_and c.from_residual.result c.from_residual.ensures.1 in
    let old = c.args.producer.now in
    rw (p.1, p.2) (stops_unpublished (g.S.BlobStore.seen c.args.store.now).held (published_of old) (published_of old) old.current c.args.closed.now.changed c.args.version c.args.tag c.args.with_snapshot stop.Memory)

pub returns-then-is_empty-clause-ends : goal.returns-then-is_empty-clause-ends
returns-then-is_empty-clause-ends g c =
    let old = c.args.producer.now in
    let changed = c.args.closed.now.changed in
    let named = subst (λ (schemas : List Schema). AreNamed schemas changed c.in_ok-changed.changed) c.model.ensures c.in_ok-changed.ensures in
    unpublished (g.S.BlobStore.seen c.args.store.now).held (published_of old) old.current changed c.args.version c.args.tag c.args.with_snapshot c.in_ok-changed.changed c.args.closed.now.first
    c.if-not-closed.true c.requires.first (c.is_empty.ensures.0 c.if-is_empty.true) named

pub returns-in_err-publish_state-clause-ends : goal.returns-in_err-publish_state-clause-ends
returns-in_err-publish_state-clause-ends g c =
    let p = err_from_is_err_and c.from_residual-in_err-publish_state.result c.from_residual-in_err-publish_state.ensures.1 in
    let old = c.args.producer.now in
    let changed = c.args.closed.now.changed in
    let held = (g.S.BlobStore.seen c.args.store.now).held in
    let held' = (g.S.BlobStore.seen c.publish_state.new.store).held in
    let now = published_of c.publish_state.new.producer in
    let publishes : Publishes (published_of old) changed =
    elim c.else-not-closed.branch [ else-not-closed-via-then-not-closed+else-is_empty w ↦ inr (changes changed w.is_empty.result w.if-is_empty.false w.is_empty.ensures) | else-not-closed-via-else-not-closed w ↦ inl (c.requires.first.0 w.if-not-closed.false) ] in
    let told = at_tag (λ t. EndsPublished held (published_of old) old.current c.args.version t c.args.with_snapshot held' now (Err c.in_err-publish_state.field-0.0)) c.args.tag c.ranges.tag c.in_err-publish_state.ensures.ends in
    rw (p.1, p.2) (not_published held held' (published_of old) now old.current changed c.args.version c.args.tag c.args.with_snapshot c.in_err-publish_state.field-0.0 publishes told)

pub returns-clause-ends : goal.returns-clause-ends
returns-clause-ends g c =
    let old = c.args.producer.now in
    let changed = c.args.closed.now.changed in
    let held = (g.S.BlobStore.seen c.args.store.now).held in
    let held' = (g.S.BlobStore.seen c.publish_state.new.store).held in
    let now = published_of c.publish_state.new.producer in
    let publishes : Publishes (published_of old) changed =
    elim c.else-not-closed.branch [ else-not-closed-via-then-not-closed+else-is_empty w ↦ inr (changes changed w.is_empty.result w.if-is_empty.false w.is_empty.ensures) | else-not-closed-via-else-not-closed w ↦ inl (c.requires.first.0 w.if-not-closed.false) ] in
    let named = subst (λ (schemas : List Schema). AreNamed schemas changed c.in_ok-changed.changed) c.model.ensures c.in_ok-changed.ensures in
    let told = at_tag (λ t. EndsPublished held (published_of old) old.current c.args.version t c.args.with_snapshot held' now (Ok tt)) c.args.tag c.ranges.tag c.in_ok-publish_state.ensures.ends in
    published held held' (published_of old) now old.current changed c.args.version c.args.tag c.args.with_snapshot c.in_ok-changed.changed publishes named told

pub returns-then-is_empty-clause-rows : goal.returns-then-is_empty-clause-rows
returns-then-is_empty-clause-rows g c = refl

pub returns-clause-rows : goal.returns-clause-rows
returns-clause-rows g c = c.in_ok-publish_state.ensures.rows
