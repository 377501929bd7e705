use Rattle.std.proofs.Common.{None, ◌≡◌, rules}
use Rattle.serde_json.specs.View.{view}
use Rattle.hollow_machine.specs.Kept.{kept_with_producer, machine_of}
use Rattle.producer_orders.proofs.Modelling.{rule_refuses, schemas_refused}
use Rattle.producer_orders.proofs.model_order.model.Goals as goal

pub returns-in-Err-Rule-clause-step : goal.returns-in-Err-Rule-clause-step
returns-in-Err-Rule-clause-step c = λ store kept.
    (let none : (machine_of store (kept_with_producer kept c.args.producer.now)).producer ≡ None = search rules in
    rule_refuses (machine_of store (kept_with_producer kept c.args.producer.now)) (view c.args.value.now) c.in-Err-Rule.rule c.in-Err-Rule.type_index c.bad_model.result none (schemas_refused (view c.args.value.now) c.in-Err-Rule.rule c.in-Err-Rule.type_index c.in-Err-Rule.field-0 (search rules) c.in-Err-Rule.ensures.tells) c.bad_model.ensures.refused)
