use Rattle.serde_json.specs.View.{view}
use Rattle.hol_orders.specs.Parts.{added, asked_change}
use Rattle.change_orders.proofs.KeyedTypes.{all_keyed, types_known}
use Rattle.change_orders.proofs.given_types.why_not_types.Goals as goal

pub returns-in-None : goal.returns-in-None
returns-in-None c =
    let schemas = c.args.model.now in
    let next = c.args.next.now in
    all_keyed schemas (asked_change next) c.in-None.ensures (types_known schemas (added next.put) c.in_ok-name.field-0 c.in_default.not-Some c.in_ok-name.ensures)
    (types_known schemas (view next.remove) c.in_ok-name-2.field-0 c.in_default-2.not-Some c.in_ok-name-2.ensures)
