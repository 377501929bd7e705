use Rattle.std.proofs.Common.{Some, refl, rules}
use Rattle.serde_json.specs.View.{view}
use Rattle.hollow_machine.specs.Kept.{kept_with_producer, machine_of}
use Rattle.producer_orders.proofs.Growing.{broken_refuses}
use Rattle.producer_orders.proofs.Modelling.{schemas_refused}
use Rattle.producer_orders.proofs.grow_order.grow_producer.Goals as goal

pub returns-in-Err-Rule-clause-step : goal.returns-in-Err-Rule-clause-step
returns-in-Err-Rule-clause-step c = λ store kept.
    broken_refuses (machine_of store (kept_with_producer kept (Some c.args.producer.now))) (view c.args.value.now) c.in-Err-Rule.rule c.in-Err-Rule.type_index c.bad_model.result refl
    (schemas_refused (view c.args.value.now) c.in-Err-Rule.rule c.in-Err-Rule.type_index c.in-Err-Rule.field-0 (search rules) c.in-Err-Rule.ensures.tells) c.bad_model.ensures.refused
