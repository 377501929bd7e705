use Rattle.std.proofs.Common.{List, Option, ℕ, subst}
use Rattle.std.proofs.lemmas.Result.{err_from_is_err_and}
use Rattle.serde_json.specs.View.{view}
use Rattle.record_trees.specs.declared.tree.Tree.{Tree}
use Rattle.hol_incremental.specs.Changes.{records}
use Rattle.hol_incremental.specs.Edited.{Keys}
use Rattle.hol_orders.specs.Parts.{added, asked_change}
use Rattle.hol_answers.specs.declared.refusal.Refusal.{Refusal}
use Rattle.hollow_machine.specs.Records.{SpellsKeys, entries}
use Rattle.change_orders.specs.Reading.{HaveRead}
use Rattle.change_orders.specs.Given.{TellsGiven, TellsKeyed}
use Rattle.change_orders.specs.Making.{AreLists}
use Rattle.change_orders.proofs.Changing.{given_keyed, put_keyed}
use Rattle.change_orders.proofs.GivenLists.{keys_object, lists_are, no_keys_end, put_types, unread_end}
use Rattle.change_orders.proofs.change_order.lists_of.Goals as goal

pub why_not_types-requires-clause-put : goal.why_not_types-requires-clause-put
why_not_types-requires-clause-put c = c.requires.order.2

pub why_not_types-requires-clause-remove : goal.why_not_types-requires-clause-remove
why_not_types-requires-clause-remove c = keys_object (view c.args.next.now.remove) c.requires.order.3

pub returns-in-Some : goal.returns-in-Some
returns-in-Some c = subst (λ (o : Option Refusal). TellsGiven c.args.model.now (asked_change c.args.next.now) o) c.in-Some.is c.in_ok-refusal.ensures

pub returns-in_err-put : goal.returns-in_err-put
returns-in_err-put c =
    let schemas = c.args.model.now in
    let asked = asked_change c.args.next.now in
    let keyed = given_keyed schemas asked c.in_ok-refusal.field-0 c.in_default.not-Some c.in_ok-refusal.ensures in
    let p = err_from_is_err_and c.from_residual-in_err-put.result c.from_residual-in_err-put.ensures.1 in
    rw (p.1, p.2) (unread_end schemas asked (λ (lists : List (ℕ × Tree) × Keys). AreLists schemas asked lists.0 lists.1) c.in_err-put.field-0.0 keyed (λ (found : List (ℕ × Tree)). HaveRead schemas (entries schemas asked.put) found) c.in_err-put.ensures)

pub why_not_keyed-requires : goal.why_not_keyed-requires
why_not_keyed-requires c = record { types = put_types c.args.model.now (added c.args.next.now.put) c.in_ok-put.put c.in_ok-put.ensures.read }

pub returns-in-Some-2 : goal.returns-in-Some-2
returns-in-Some-2 c =
    let schemas = c.args.model.now in
    let asked = asked_change c.args.next.now in
    let keyed = given_keyed schemas asked c.in_ok-refusal.field-0 c.in_default.not-Some c.in_ok-refusal.ensures in
    subst (λ (o : Option Refusal). TellsKeyed schemas asked (records c.in_ok-put.put) o) c.in-Some-2.is (c.in_ok-refusal-2.ensures asked keyed c.in_ok-put.ensures)

pub removed_keys-requires : goal.removed_keys-requires
removed_keys-requires c = record { keyed = (given_keyed c.args.model.now (asked_change c.args.next.now) c.in_ok-refusal.field-0 c.in_default.not-Some c.in_ok-refusal.ensures).2 }

pub returns-in_err-remove : goal.returns-in_err-remove
returns-in_err-remove c =
    let schemas = c.args.model.now in
    let asked = asked_change c.args.next.now in
    let keyed = given_keyed schemas asked c.in_ok-refusal.field-0 c.in_default.not-Some c.in_ok-refusal.ensures in
    let puts = records c.in_ok-put.put in
    let own = put_keyed schemas asked puts c.in_ok-refusal-2.field-0 c.in_default-2.not-Some (c.in_ok-refusal-2.ensures asked keyed c.in_ok-put.ensures) in
    let p = err_from_is_err_and c.from_residual-in_err-remove.result c.from_residual-in_err-remove.ensures.1 in
    rw (p.1, p.2) (no_keys_end schemas asked (λ (lists : List (ℕ × Tree) × Keys). AreLists schemas asked lists.0 lists.1) c.in_err-remove.field-0.0 puts (keyed, c.in_ok-put.ensures.read) own.0 own.1 (SpellsKeys schemas asked.remove) c.in_err-remove.ensures)

pub returns : goal.returns
returns c =
    let schemas = c.args.model.now in
    let asked = asked_change c.args.next.now in
    let keyed = given_keyed schemas asked c.in_ok-refusal.field-0 c.in_default.not-Some c.in_ok-refusal.ensures in
    let own = put_keyed schemas asked (records c.in_ok-put.put) c.in_ok-refusal-2.field-0 c.in_default-2.not-Some (c.in_ok-refusal-2.ensures asked keyed c.in_ok-put.ensures) in
    lists_are schemas asked c.in_ok-put.put c.in_ok-remove.remove c.len-types.ensures.model (keyed, c.in_ok-put.ensures.read) own.0 own.1 c.in_ok-remove.ensures
