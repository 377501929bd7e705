use Rattle.std.proofs.Common.{Err, ap, ◌≡◌}
use Rattle.std.proofs.lemmas.Result.{err_from_is_err_and}
use Rattle.write_engine.specs.Production.{Production, advanced_to}
use Rattle.state_blobs.specs.Published.{published_of}
use Rattle.state_blobs.specs.declared.write.Blobs.{Blobs}
use Rattle.producer_orders.specs.Ends.{IsMemory, TellsEnd}
use Rattle.producer_orders.specs.Making.{IsTooLarge, IsWithin}
use Rattle.hol_orders.specs.Stops.{stop_of}
use Rattle.state_blobs.proofs.Tags.{at_tag}
use Rattle.producer_orders.proofs.Cycling.{is_published, no_blobs, put_in_part}
use Rattle.producer_orders.proofs.cycle_order.publish_state.Goals as goal

pub returns-in_err-blobs-clause-ends : goal.returns-in_err-blobs-clause-ends
returns-in_err-blobs-clause-ends g c =
    let p = err_from_is_err_and c.from_residual.result c.from_residual.ensures.1 in
    let old = c.args.producer.now in
    let end = c.in_err-blobs.field-0.0 in
    let told = at_tag (λ t. TellsEnd {T = Blobs} (IsWithin (published_of old) old.current c.args.version t c.args.with_snapshot) (IsTooLarge (published_of old) old.current c.args.version t c.args.with_snapshot) IsMemory (Err end)) c.args.tag c.ranges.tag c.in_err-blobs.ensures in
    rw (p.1, p.2) (no_blobs (g.S.BlobStore.seen c.args.store.now).held (published_of old) (published_of old) old.current c.args.version c.args.tag c.args.with_snapshot end told)

pub returns-in_err-publish-clause-ends : goal.returns-in_err-publish-clause-ends
returns-in_err-publish-clause-ends g c =
    let p = err_from_is_err_and c.from_residual-in_err-publish.result c.from_residual-in_err-publish.ensures.1 in
    let old = c.args.producer.now in
    let within = at_tag (λ t. IsWithin (published_of old) old.current c.args.version t c.args.with_snapshot c.in_ok-blobs.blobs) c.args.tag c.ranges.tag c.in_ok-blobs.ensures in
    rw (p.1, p.2) (put_in_part (g.S.BlobStore.seen c.args.store.now).held (g.S.BlobStore.seen c.publish.new.store).held (published_of old) (published_of old) old.current c.args.version c.args.tag c.args.with_snapshot
    c.in_ok-blobs.blobs (stop_of c.in_err-publish.field-0.0) within c.in_err-publish.ensures.part)

pub returns-clause-ends : goal.returns-clause-ends
returns-clause-ends g c =
    let old = c.args.producer.now in
    let within = at_tag (λ t. IsWithin (published_of old) old.current c.args.version t c.args.with_snapshot c.in_ok-blobs.blobs) c.args.tag c.ranges.tag c.in_ok-blobs.ensures in
    let is = at_tag (λ t. c.advance.new.self ≡ advanced_to t c.args.version old) c.args.tag c.ranges.tag c.advance.ensures in
    is_published (g.S.BlobStore.seen c.args.store.now).held (g.S.BlobStore.seen c.publish.new.store).held old c.advance.new.self c.args.version c.args.tag c.args.with_snapshot c.in_ok-blobs.blobs within c.in_ok-publish.ensures.put is

pub returns-clause-model : goal.returns-clause-model
returns-clause-model g c = ap (λ (p : Production). p.schemas) c.advance.ensures

pub returns-clause-rows : goal.returns-clause-rows
returns-clause-rows g c = ap (λ (p : Production). p.previous) c.advance.ensures
