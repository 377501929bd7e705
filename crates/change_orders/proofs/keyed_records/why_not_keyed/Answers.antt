use Rattle.std.proofs.Common.{List, Option, ℕ, subst, sym}
use Rattle.schema_model.specs.declared.model.rule.Rule.TheVariants.{DuplicateName}
use Rattle.record_trees.specs.declared.tree.Tree.{Tree}
use Rattle.hol_incremental.specs.Changes.{records}
use Rattle.hol_answers.specs.declared.refusal.Refusal.{Refusal}
use Rattle.hollow_machine.specs.ChangeOrder.{ArePut}
use Rattle.change_orders.specs.Keys.{TellsFound}
use Rattle.change_orders.proofs.KeyedRecords.{keyed_result}
use Rattle.change_orders.proofs.keyed_records.why_not_keyed.Goals as goal

pub returns-in-Some : goal.returns-in-Some
returns-in-Some c = λ asked keyed read.
    (let schemas = c.args.model.now in
    let told = c.in_ok-refusal.ensures.tells asked (subst (λ (xs : List (ℕ × Tree)). ArePut schemas asked (records xs)) (sym c.as_slice.ensures) (keyed, read.read)) in
    subst (λ (o : Option Refusal). TellsFound schemas asked c.read_keys.new.found o) c.in-Some.is told)

pub returns : goal.returns
returns c = λ asked keyed read.
    (let schemas = c.args.model.now in
    keyed_result schemas (c.len-types.ensures.model DuplicateName) c.as_slice.result.now c.args.put.now c.as_slice.ensures c.as_slice-in-None.result.now c.read_keys.new.found c.as_slice-in-None.ensures
    (λ asked' are. subst (λ (o : Option Refusal). TellsFound schemas asked' c.read_keys.new.found o) c.in-None.is (c.in_ok-refusal.ensures.tells asked' are)) c.key_twice.result c.key_twice.ensures asked (keyed, read.read))
