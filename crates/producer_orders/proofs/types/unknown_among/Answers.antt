use Rattle.std.proofs.Common.{rules, tests, sym, subst, ◌∙◌, String, Bor, List, ℕ}
use Rattle.std.specs.Map.{keys_of}
use Rattle.std.specs.declared.alloc.Global.{Global}
use Rattle.std.proofs.lemmas.Iterator.Consumers.{YieldsList-from_rest}
use Rattle.std.proofs.lemmas.Iterator.Search.{find_from_yields_List}
use Rattle.serde_json.specs.Data.{object}
use Rattle.serde_json.specs.View.{members_view}
use Rattle.hollow_machine.specs.Records.{IsFirstUnknown}
use Rattle.producer_orders.proofs.KnownTypes.{flipped, is_unknown, none_found, some_found, unknown_found, unknown_none}
use Rattle.producer_orders.proofs.types.unknown_among.Goals as goal

pub returns-in_ok-from_text-in-Some : goal.returns-in_ok-from_text-in-Some
returns-in_ok-from_text-in-Some c =
    let entries = c.args.members.now.entries in
    subst (λ (name : List ℕ). IsFirstUnknown c.args.model.now (object (members_view entries)) name) (sym (c.in_ok-from_text-in-Some.ensures ∙ c.as_str.ensures.value))
    (unknown_found c.args.model.now entries c.in-Some.name.now
    (some_found (λ (b : Bor (String Global)). b.now) c.find.result c.in-Some.name _
    (find_from_yields_List (is_unknown c.args.model.now) _ _ c.find.result c.find.ensures.ran (YieldsList-from_rest (keys_of entries) c.keys.ensures.rest) (λ x b q k. search (rules, tests, flipped))) c.in-Some.is))

pub returns-in-None : goal.returns-in-None
returns-in-None c =
    let entries = c.args.members.now.entries in
    unknown_none c.args.model.now entries
    (none_found (λ (b : Bor (String Global)). b.now) c.find.result _
    (find_from_yields_List (is_unknown c.args.model.now) _ _ c.find.result c.find.ensures.ran (YieldsList-from_rest (keys_of entries) c.keys.ensures.rest) (λ x b q k. search (rules, tests, flipped))) c.in-None.is)
