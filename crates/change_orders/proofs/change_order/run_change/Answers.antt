use Rattle.std.proofs.Common.{Err, Ok, List, Option, ℕ, refl, subst, sym}
use Rattle.std.proofs.lemmas.Result.{err_from_is_err_and}
use Rattle.hol_io.specs.Store.{Store}
use Rattle.schema_model.specs.declared.schema.Schema.{Schema}
use Rattle.record_trees.specs.declared.tree.Tree.{Tree}
use Rattle.hol_incremental.specs.Edited.{Keys}
use Rattle.hol_incremental.specs.EditKeys.{AreEditsOf}
use Rattle.hol_orders.specs.Parts.{asked_change}
use Rattle.hol_orders.specs.declared.order_stop.OrderStop.TheVariants as stop
use Rattle.hol_answers.specs.declared.reply.Reply.{Reply}
use Rattle.hollow_machine.specs.ChangeOrder.{IsNoChange}
use Rattle.hollow_machine.specs.Records.{cycle_of_change}
use Rattle.state_blobs.specs.Published.{published_of}
use Rattle.state_blobs.proofs.Tags.{at_tag}
use Rattle.producer_orders.specs.Making.{Follows}
use Rattle.producer_orders.proofs.Cycling.{follow_ends}
use Rattle.change_orders.specs.Making.{AreLists, ChangeSteps, TellsLists}
use Rattle.change_orders.proofs.Changing.{answered_too, err_steps, lists_err, memory_cause, readied, stops_early}
use Rattle.change_orders.proofs.change_order.run_change.Goals as goal

pub returns-in_err-check_follow-clause-steps : goal.returns-in_err-check_follow-clause-steps
returns-in_err-check_follow-clause-steps g c =
    let p = err_from_is_err_and c.from_residual.result c.from_residual.ensures.1 in
    let held = (g.S.BlobStore.seen c.args.store.now).held in
    let between = (g.S.BlobStore.seen c.check_follow.new.store).held in
    let end = c.in_err-check_follow.field-0.0 in
    let asked = asked_change c.args.next.now in
    let last = published_of c.args.producer.now in
    let follows = at_tag (λ t. Follows held c.version.result asked.version t (Err end)) asked.tag c.requires.order.1 c.in_err-check_follow.ensures.follows in
    let follows_last = subst (λ (v : ℕ). Follows held v asked.version asked.tag (Err end)) c.version.ensures follows in
    rw (p.1, p.2) (err_steps asked held between last last end (follow_ends (cycle_of_change asked) held between last last end c.in_err-check_follow.ensures.kept follows_last))

pub returns-in_err-put-clause-steps : goal.returns-in_err-put-clause-steps
returns-in_err-put-clause-steps g c =
    let p = err_from_is_err_and c.from_residual-in_err-put.result c.from_residual-in_err-put.ensures.1 in
    let held = (g.S.BlobStore.seen c.args.store.now).held in
    let between = (g.S.BlobStore.seen c.check_follow.new.store).held in
    let end = c.in_err-put.field-0.0 in
    let asked = asked_change c.args.next.now in
    let last = published_of c.args.producer.now in
    let follows = at_tag (λ t. Follows held c.version.result asked.version t (Ok tt)) asked.tag c.requires.order.1 c.in_ok-check_follow.ensures.follows in
    let follows_last = subst (λ (v : ℕ). Follows held v asked.version asked.tag (Ok tt)) c.version.ensures follows in
    let told = subst (λ (schemas : List Schema). TellsLists schemas asked (Err end)) c.model.ensures c.in_err-put.ensures in
    rw (p.1, p.2) (lists_err asked held between last last (λ (lists : List (ℕ × Tree) × Keys). AreLists last.model asked lists.0 lists.1) end c.check_follow.ensures.kept follows_last told)

pub returns-in_err-edits-clause-steps : goal.returns-in_err-edits-clause-steps
returns-in_err-edits-clause-steps g c =
    let p = err_from_is_err_and c.from_residual-in_err-edits.result c.from_residual-in_err-edits.ensures.1 in
    let held = (g.S.BlobStore.seen c.args.store.now).held in
    let between = (g.S.BlobStore.seen c.check_follow.new.store).held in
    let last = published_of c.args.producer.now in
    rw (p.1, p.2) (stops_early (asked_change c.args.next.now) held between last last stop.Memory c.check_follow.ensures.kept)

pub make_change-ended-requires-clause-lists : goal.make_change-ended-requires-clause-lists
make_change-ended-requires-clause-lists g c =
    subst (λ (schemas : List Schema). AreLists schemas (asked_change c.args.next.now) c.in_ok-put.put c.in_ok-put.remove) c.model.ensures c.in_ok-put.ensures

pub settle-requires : goal.settle-requires
settle-requires g c = λ is. readied c.args.producer.now c.make_change-ended.new.producer c.make_change-ended.new.edits c.make_change-ended.result c.make_change-ended.ensures.edits is

pub returns-clause-steps : goal.returns-clause-steps
returns-clause-steps g c =
    let held = (g.S.BlobStore.seen c.args.store.now).held in
    let between = (g.S.BlobStore.seen c.check_follow.new.store).held in
    let held' = (g.S.BlobStore.seen c.make_change-ended.new.store).held in
    let asked = asked_change c.args.next.now in
    let last = published_of c.args.producer.now in
    let now = published_of c.make_change-ended.new.producer in
    let same = c.check_follow.ensures.kept in
    let follows = at_tag (λ t. Follows held c.version.result asked.version t (Ok tt)) asked.tag c.requires.order.1 c.in_ok-check_follow.ensures.follows in
    let follows_last = subst (λ (v : ℕ). Follows held v asked.version asked.tag (Ok tt)) c.version.ensures follows in
    let follows_between = subst (λ (h : Option Store). Follows h last.version asked.version asked.tag (Ok tt)) (sym same) follows_last in
    subst (λ (h : Option Store). ChangeSteps asked h last held' now c.make_change-ended.result) same (c.make_change-ended.ensures.steps follows_between)

pub returns-clause-edits : goal.returns-clause-edits
returns-clause-edits g c =
    let now = c.make_change-ended.new.producer in
    subst (λ (schemas : List Schema). AreEditsOf schemas now.previous c.settle.new.edits) (sym c.make_change-ended.ensures.model)
    (c.settle.ensures c.args.producer.now now c.make_change-ended.ensures.edits)

pub returns-clause-held : goal.returns-clause-held
returns-clause-held g c = answered_too c.make_change-ended.result _ refl

pub returns-in_err-put-clause-cause : goal.returns-in_err-put-clause-cause
returns-in_err-put-clause-cause g c =
    let p = err_from_is_err_and c.from_residual-in_err-put.result c.from_residual-in_err-put.ensures.1 in
    let before = (g.S.BlobStore.seen c.args.store.now).faults in
    let now = (g.S.BlobStore.seen c.check_follow.new.store).faults in
    let asked = asked_change c.args.next.now in
    let schemas = c.model.result.now in
    rw (p.1, p.2) (memory_cause {T = Reply} {U = List (ℕ × Tree) × Keys} (λ lists. AreLists schemas asked lists.0 lists.1) (IsNoChange schemas asked) c.in_err-put.field-0.0 before now c.in_ok-check_follow.ensures.cause.later c.in_err-put.ensures)
