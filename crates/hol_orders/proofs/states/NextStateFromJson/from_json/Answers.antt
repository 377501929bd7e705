use Rattle.serde_json.specs.View.{view}
use Rattle.hol_orders.proofs.Parts.{no_records, no_state}
use Rattle.hol_orders.proofs.states.NextStateFromJson.from_json.Goals as goal

pub returns-in_err-add-2 : goal.returns-in_err-add-2
returns-in_err-add-2 c = no_records (view c.args.value) (view c.in_ok-add.add) c.in_ok-add.snapshot (view c.in_ok-add.tag) (view c.in_ok-add.version) c.from_residual-in_err-add-2.result
    c.in_err-add-2.field-0.0 c.from_residual-in_err-add-2.ensures.1 c.in_ok-add.ensures c.in_err-add-2.ensures

pub returns-in_err-add : goal.returns-in_err-add
returns-in_err-add c = no_state (view c.args.value) c.from_residual.result c.in_err-add.field-0.0 c.from_residual.ensures.1 c.in_err-add.ensures
