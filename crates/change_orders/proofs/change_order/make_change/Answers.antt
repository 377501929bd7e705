use Rattle.std.proofs.Common.{Err, Ok, ℕ, arith, ap, refl, subst, sym, ◌∙◌, ◌≡◌, true}
use Rattle.std.specs.Prelude.{All, IfSome, IsTrue, ◌↔◌, ◌<◌, length, option_copied}
use Rattle.std.proofs.lemmas.Result.{err_from_is_err_and}
use Rattle.row_packing.specs.Measured.{AreMeasured}
use Rattle.kept_sections.specs.Sections.{AreSectionsFor}
use Rattle.write_engine.specs.CycleLimit.{IsToPublish, TellsCycle}
use Rattle.write_engine.specs.declared.producer.Closed.{Closed}
use Rattle.hol_orders.specs.Parts.{asked_change}
use Rattle.hol_answers.specs.declared.reply.Reply.{Reply}
use Rattle.hollow_machine.specs.Records.{cycle_of_change, edited}
use Rattle.state_blobs.specs.Published.{Published, published_of}
use Rattle.state_blobs.proofs.Tags.{at_tag}
use Rattle.producer_orders.specs.Making.{AreRefused, Ends}
use Rattle.producer_orders.proofs.Cycling.{ends}
use Rattle.change_orders.specs.Making.{IsEditedState}
use Rattle.change_orders.proofs.Changing.{edit_err, err_steps, kept_err, kept_ok, memory_cause, ok_told}
use Rattle.change_orders.proofs.change_order.make_change.Goals as goal

pub make_edited-requires-clause-fits : goal.make_edited-requires-clause-fits
make_edited-requires-clause-fits g c = c.requires.lists.1

pub make_edited-requires-clause-keyed : goal.make_edited-requires-clause-keyed
make_edited-requires-clause-keyed g c = c.requires.lists.0.keyed

pub returns-in_err-missing-clause-steps : goal.returns-in_err-missing-clause-steps
returns-in_err-missing-clause-steps g c = λ follows.
    (let p = err_from_is_err_and c.from_residual.result c.from_residual.ensures.1 in
    let held = (g.S.BlobStore.seen c.args.store.now).held in
    let asked = asked_change c.args.next.now in
    let last = published_of c.args.producer.now in
    rw (p.1, p.2) (edit_err asked held held last (published_of c.make_edited.new.producer) (IsEditedState last asked c.make_edited.new.producer) c.in_err-missing.field-0.0 refl follows
    (c.in_err-missing.ensures.tells asked c.requires.lists)))

pub returns-in_err-missing-clause-edits : goal.returns-in_err-missing-clause-edits
returns-in_err-missing-clause-edits g c =
    let p = err_from_is_err_and c.from_residual.result c.from_residual.ensures.1 in
    rw p.1 (kept_err c.args.producer.now c.make_edited.new.producer c.make_edited.new.edits p.0 c.in_err-missing.ensures.refused c.make_edited.ensures.kept)

pub returns-in_err-missing-clause-model : goal.returns-in_err-missing-clause-model
returns-in_err-missing-clause-model g c = ap (λ (p : Published). p.model) c.make_edited.ensures.kept

pub end_cycle-requires-clause-is_closed : goal.end_cycle-requires-clause-is_closed
end_cycle-requires-clause-is_closed g c = (c.in_ok-missing.ensures.tells (asked_change c.args.next.now) c.requires.lists).1.is_closed

pub end_cycle-requires-clause-first : goal.end_cycle-requires-clause-first
end_cycle-requires-clause-first g c =
    subst (λ (p : Published). IsTrue c.in_ok-missing.closed.first ↔ (p.version ≡ 0)) (sym c.make_edited.ensures.kept) (c.in_ok-missing.ensures.tells (asked_change c.args.next.now) c.requires.lists).1.first

pub end_cycle-requires-clause-in_model : goal.end_cycle-requires-clause-in_model
end_cycle-requires-clause-in_model g c =
    subst (λ (p : Published). All (λ t. t < length p.model) c.in_ok-missing.closed.changed) (sym c.make_edited.ensures.kept) (c.in_ok-missing.ensures.tells (asked_change c.args.next.now) c.requires.lists).1.in_model

pub end_cycle-requires-clause-over : goal.end_cycle-requires-clause-over
end_cycle-requires-clause-over g c =
    let mid = c.make_edited.new.producer in
    subst (λ (p : Published). TellsCycle p.model p.rows mid.current p.version c.in_ok-missing.closed.changed mid.over) (sym c.make_edited.ensures.kept) (c.in_ok-missing.ensures.tells (asked_change c.args.next.now) c.requires.lists).1.over

pub end_cycle-requires-clause-measured : goal.end_cycle-requires-clause-measured
end_cycle-requires-clause-measured g c =
    let mid = c.make_edited.new.producer in
    subst (λ (p : Published). IsToPublish p.version c.in_ok-missing.closed.changed → AreMeasured p.model p.rows mid.current c.in_ok-missing.closed.measured) (sym c.make_edited.ensures.kept)
    (c.in_ok-missing.ensures.tells (asked_change c.args.next.now) c.requires.lists).1.measured

pub end_cycle-requires-clause-sections : goal.end_cycle-requires-clause-sections
end_cycle-requires-clause-sections g c =
    let mid = c.make_edited.new.producer in
    let old = c.args.producer.now in
    subst (λ (p : Published). IfSome (option_copied c.packed.result) (AreSectionsFor p.model p.rows mid.current)) (sym c.make_edited.ensures.kept)
    (c.packed.ensures old.schemas old.previous mid.current c.in_ok-missing.ensures.ready)

pub returns-in_err-reply-clause-steps : goal.returns-in_err-reply-clause-steps
returns-in_err-reply-clause-steps g c = λ follows.
    (let p = err_from_is_err_and c.from_residual-in_err-reply.result c.from_residual-in_err-reply.ensures.1 in
    let held = (g.S.BlobStore.seen c.args.store.now).held in
    let held' = (g.S.BlobStore.seen c.end_cycle.new.store).held in
    let asked = asked_change c.args.next.now in
    let last = published_of c.args.producer.now in
    let mid = c.make_edited.new.producer in
    let now = published_of c.end_cycle.new.producer in
    let closed = c.in_ok-missing.closed in
    let end = c.in_err-reply.field-0.0 in
    let told = at_tag (λ t. Ends held (published_of mid) mid.current closed.changed asked.version t true held' now (Err end)) asked.tag c.requires.order.1 c.in_err-reply.ensures.ends in
    rw (p.1, p.2) (err_steps asked held held' last now end
    (ends (cycle_of_change asked) held held held' last (published_of mid) now mid closed (Err end) refl c.make_edited.ensures.kept follows (c.in_ok-missing.ensures.tells asked c.requires.lists).1 told)))

pub returns-in_err-reply-clause-model : goal.returns-in_err-reply-clause-model
returns-in_err-reply-clause-model g c = c.end_cycle.ensures.model ∙ ap (λ (p : Published). p.model) c.make_edited.ensures.kept

pub returns-in_err-reply-clause-kept : goal.returns-in_err-reply-clause-kept
returns-in_err-reply-clause-kept g c =
    let p = err_from_is_err_and c.from_residual-in_err-reply.result c.from_residual-in_err-reply.ensures.1 in
    rw p.1 (c.in_err-reply.ensures.kept ∙ c.make_edited.ensures.kept)

pub returns-in_err-reply-clause-edits : goal.returns-in_err-reply-clause-edits
returns-in_err-reply-clause-edits g c =
    let p = err_from_is_err_and c.from_residual-in_err-reply.result c.from_residual-in_err-reply.ensures.1 in
    rw p.1 (kept_err c.args.producer.now c.end_cycle.new.producer c.make_edited.new.edits p.0 c.in_ok-missing.ensures.ready.now (c.in_err-reply.ensures.kept ∙ c.make_edited.ensures.kept))

pub returns-clause-steps : goal.returns-clause-steps
returns-clause-steps g c = λ follows.
    (let held = (g.S.BlobStore.seen c.args.store.now).held in
    let held' = (g.S.BlobStore.seen c.end_cycle.new.store).held in
    let asked = asked_change c.args.next.now in
    let last = published_of c.args.producer.now in
    let mid = c.make_edited.new.producer in
    let now = published_of c.end_cycle.new.producer in
    let closed = c.in_ok-missing.closed in
    let reply = c.in_ok-reply.reply in
    let state = c.in_ok-missing.ensures.tells asked c.requires.lists in
    let told = at_tag (λ t. Ends held (published_of mid) mid.current closed.changed asked.version t true held' now (Ok reply)) asked.tag c.requires.order.1 c.in_ok-reply.ensures.ends in
    ok_told asked held held' last now reply c.in_ok-missing.missing c.as_change.result c.as_change.ensures state.0
    (ends (cycle_of_change asked) held held held' last (published_of mid) now mid closed (Ok reply) refl c.make_edited.ensures.kept follows state.1 told))

pub returns-clause-model : goal.returns-clause-model
returns-clause-model g c = c.end_cycle.ensures.model ∙ ap (λ (p : Published). p.model) c.make_edited.ensures.kept

pub returns-clause-edits : goal.returns-clause-edits
returns-clause-edits g c =
    kept_ok c.args.producer.now c.make_edited.new.producer c.end_cycle.new.producer c.make_edited.new.edits c.in_ok-reply.reply c.in_ok-missing.missing c.as_change.result c.as_change.ensures c.in_ok-missing.ensures.ready
    c.make_edited.ensures.kept c.in_ok-reply.ensures.rows

pub returns-in_err-missing-clause-cause : goal.returns-in_err-missing-clause-cause
returns-in_err-missing-clause-cause g c =
    let p = err_from_is_err_and c.from_residual.result c.from_residual.ensures.1 in
    let faults = (g.S.BlobStore.seen c.args.store.now).faults in
    let asked = asked_change c.args.next.now in
    let last = published_of c.args.producer.now in
    rw (p.1, p.2) (memory_cause {T = Reply} {U = ℕ × Closed} (IsEditedState last asked c.make_edited.new.producer) (AreRefused last (edited asked.put asked.remove)) c.in_err-missing.field-0.0 faults faults (omega arith) (c.in_err-missing.ensures.tells asked c.requires.lists))
