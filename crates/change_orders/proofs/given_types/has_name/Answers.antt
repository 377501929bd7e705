use Rattle.std.proofs.Common.{Bor, sym, ap}
use Rattle.serde_json.specs.View.{view}
use Rattle.serde_json.specs.declared.value.Value.{Value}
use Rattle.hol_orders.specs.Parts.{added}
use Rattle.hollow_machine.specs.Records.{names_of}
use Rattle.change_orders.proofs.KeyedTypes.{found_named, named_bare, same_names}
use Rattle.change_orders.proofs.given_types.has_name.Goals as goal

pub returns-in-Json : goal.returns-in-Json
returns-in-Json c =
    let name = c.args.name.now in
    same_names (view c.in-Json.json) (added c.args.given.now) name c.is_some.result (ap names_of (sym (ap added c.in-Json.is)))
    (found_named (λ (v : Bor Value). view v.now) c.get.result c.is_some.result (view c.in-Json.json) name c.is_some.ensures c.get.ensures)

pub returns-in-Line : goal.returns-in-Line
returns-in-Line c =
    let name = c.args.name.now in
    let json = view c.names.result.now in
    let names = c.names.ensures in
    same_names json (added c.args.given.now) name c.is_some-in-Line.result (named_bare json (added c.args.given.now) names.0 names.2 (ap added c.in-Line.is) names.1)
    (found_named (λ (v : Bor Value). view v.now) c.get-in-Line.result c.is_some-in-Line.result json name c.is_some-in-Line.ensures c.get-in-Line.ensures)
