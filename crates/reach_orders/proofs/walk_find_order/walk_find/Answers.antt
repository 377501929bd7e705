use Rattle.std.proofs.Common.{subst}
use Rattle.serde_json.specs.View.{view}
use Rattle.consumer_orders.specs.Asked.{TellsType}
use Rattle.consumer_orders.proofs.Asking.{inside_model}
use Rattle.reach_orders.proofs.Seeking.{find_answers}
use Rattle.reach_orders.proofs.walk_find_order.walk_find.Goals as goal

pub find_walked-requires : goal.find_walked-requires
find_walked-requires c = inside_model c.args.consumer.now c.args.name.now c.in-At.type_index (subst (TellsType c.args.consumer.now c.args.name.now) c.in-At.is c.in_ok-type_index.ensures)

pub returns-clause-reply : goal.returns-clause-reply
returns-clause-reply c =
    find_answers c.args.consumer.now c.args.name.now c.args.path.now (view c.args.value.now) c.in-At.type_index c.in_ok-find_walked.field-0
    (subst (TellsType c.args.consumer.now c.args.name.now) c.in-At.is c.in_ok-type_index.ensures) c.in_ok-find_walked.ensures
