use Rattle.std.proofs.Common.{◌∙◌, List, ℕ, Bor, inl, inr, ap, subst, sym}
use Rattle.std.specs.Prelude.{◌↔◌, Contains, IsTrue}
use Rattle.serde_json.specs.Find.{get}
use Rattle.serde_json.specs.View.{view}
use Rattle.serde_json.specs.declared.value.Value.{Value}
use Rattle.hol_orders.specs.Parts.{asked_change}
use Rattle.hollow_machine.specs.Records.{names_of}
use Rattle.change_orders.proofs.KeyedTypes.{found_named, given_in, in_given}
use Rattle.change_orders.proofs.given_types.is_given.Goals as goal

pub returns-then-has_name : goal.returns-then-has_name
returns-then-has_name c =
    let schemas = c.args.model.now in
    let asked = asked_change c.args.next.now in
    let t = c.args.type_index in
    let schema = c.schema.result.now in
    let put = subst (λ (n : List ℕ). IsTrue c.has_name.result ↔ Contains (names_of asked.put) n) c.text-name.ensures c.has_name.ensures in
    ((λ holds. given_in schemas asked t schema c.schema.ensures.value (inl (put.0 c.if-has_name.true))), (λ given. c.if-has_name.true))

pub returns-else-has_name : goal.returns-else-has_name
returns-else-has_name c =
    let schemas = c.args.model.now in
    let asked = asked_change c.args.next.now in
    let t = c.args.type_index in
    let schema = c.schema.result.now in
    let put = subst (λ (n : List ℕ). IsTrue c.has_name.result ↔ Contains (names_of asked.put) n) c.text-name.ensures c.has_name.ensures in
    let removed = found_named (λ (v : Bor Value). view v.now) c.get.result c.is_some.result asked.remove schema.name c.is_some.ensures
    (c.get.ensures ∙ ap (λ (n : List ℕ). get n asked.remove) c.text-name.ensures) in (
      (λ holds. given_in schemas asked t schema c.schema.ensures.value (inr (removed.0 holds))),
      (λ given. elim (in_given schemas asked t schema c.schema.ensures.value given) [
        | inl there ↦ absurd (let is = sym c.if-has_name.false ∙ put.1 there in cc)
        | inr there ↦ removed.1 there
      ]),
    )
