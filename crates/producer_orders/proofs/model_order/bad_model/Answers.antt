use Rattle.serde_json.specs.View.{view}
use Rattle.producer_orders.proofs.Modelling.{rule_named}
use Rattle.producer_orders.proofs.model_order.bad_model.Goals as goal

pub name_at-requires : goal.name_at-requires
name_at-requires c = rule_named (view c.args.value.now) c.args.rule c.args.type_index c.requires
