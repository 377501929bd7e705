use Rattle.std.proofs.Common.{Err, Ok, ap, subst, ℕ, ◌∙◌}
use Rattle.std.proofs.lemmas.Result.{err_from_is_err_and}
use Rattle.producer_orders.specs.Asked.{asked_of}
use Rattle.state_blobs.specs.Published.{Published, published_of}
use Rattle.producer_orders.specs.Making.{Ends, Follows, IsMade}
use Rattle.state_blobs.proofs.Tags.{at_tag}
use Rattle.producer_orders.proofs.Cycling.{ends, follow_ends, records_end}
use Rattle.producer_orders.proofs.cycle_order.run_cycle.Goals as goal

pub returns-in_err-check_follow-clause-steps : goal.returns-in_err-check_follow-clause-steps
returns-in_err-check_follow-clause-steps g c =
    let p = err_from_is_err_and c.from_residual.result c.from_residual.ensures.1 in
    let held = (g.S.BlobStore.seen c.args.store.now).held in
    let between = (g.S.BlobStore.seen c.check_follow.new.store).held in
    let end = c.in_err-check_follow.field-0.0 in
    let asked = asked_of c.args.version c.args.tag c.args.with_snapshot c.args.records.now in
    let last = published_of c.args.producer.now in
    let follows = at_tag (λ t. Follows held c.version.result asked.version t (Err end)) asked.tag c.ranges.tag c.in_err-check_follow.ensures.follows in
    let follows_last = subst (λ (v : ℕ). Follows held v asked.version asked.tag (Err end)) c.version.ensures follows in
    rw (p.1, p.2) (follow_ends asked held between last last end c.in_err-check_follow.ensures.kept follows_last)

pub returns-in_err-closed-clause-steps : goal.returns-in_err-closed-clause-steps
returns-in_err-closed-clause-steps g c =
    let p = err_from_is_err_and c.from_residual-in_err-closed.result c.from_residual-in_err-closed.ensures.1 in
    let held = (g.S.BlobStore.seen c.args.store.now).held in
    let between = (g.S.BlobStore.seen c.check_follow.new.store).held in
    let asked = asked_of c.args.version c.args.tag c.args.with_snapshot c.args.records.now in
    let last = published_of c.args.producer.now in
    let follows = at_tag (λ t. Follows held c.version.result asked.version t (Ok tt)) asked.tag c.ranges.tag c.in_ok-check_follow.ensures.follows in
    let follows_last = subst (λ (v : ℕ). Follows held v asked.version asked.tag (Ok tt)) c.version.ensures follows in
    rw (p.1, p.2) (records_end asked held between last (published_of c.make_state.new.producer) (IsMade last asked.add c.make_state.new.producer) c.in_err-closed.field-0.0 c.check_follow.ensures.kept follows_last c.in_err-closed.ensures.tells)

pub returns-clause-steps : goal.returns-clause-steps
returns-clause-steps g c =
    let held = (g.S.BlobStore.seen c.args.store.now).held in
    let between = (g.S.BlobStore.seen c.check_follow.new.store).held in
    let held' = (g.S.BlobStore.seen c.end_cycle.new.store).held in
    let made = c.make_state.new.producer in
    let now = published_of c.end_cycle.new.producer in
    let asked = asked_of c.args.version c.args.tag c.args.with_snapshot c.args.records.now in
    let fits = c.ranges.tag in
    let follows = at_tag (λ t. Follows held c.version.result asked.version t (Ok tt)) asked.tag fits c.in_ok-check_follow.ensures.follows in
    let follows_last = subst (λ (v : ℕ). Follows held v asked.version asked.tag (Ok tt)) c.version.ensures follows in
    let told = at_tag (λ t. Ends between (published_of made) made.current c.in_ok-closed.closed.changed asked.version t asked.snapshot held' now c.end_cycle.result) asked.tag fits c.end_cycle.ensures.ends in
    ends asked held between held' (published_of c.args.producer.now) (published_of made) now made c.in_ok-closed.closed c.end_cycle.result
    c.check_follow.ensures.kept c.make_state.ensures.kept follows_last c.in_ok-closed.ensures.tells told

pub returns-in_err-closed-clause-model : goal.returns-in_err-closed-clause-model
returns-in_err-closed-clause-model g c = ap (λ (p : Published). p.model) c.make_state.ensures.kept

pub returns-clause-model : goal.returns-clause-model
returns-clause-model g c = c.end_cycle.ensures.model ∙ ap (λ (p : Published). p.model) c.make_state.ensures.kept
