use Rattle.std.proofs.Common.{subst}
use Rattle.serde_json.specs.View.{view}
use Rattle.reach_orders.specs.Walked.{TellsWay}
use Rattle.reach_orders.proofs.Ends.{walk_ends}
use Rattle.reach_orders.proofs.Seeking.{lost_found, no_walk, type_lists}
use Rattle.reach_orders.proofs.walk_find_order.find_walked.Goals as goal

pub returns-in-Refused : goal.returns-in-Refused
returns-in-Refused c =
    lost_found c.in-Some.model.now c.args.type_index c.args.text.now (view c.args.value.now) c.args.consumer.now c.in-Refused.refusal c.in-Some.ensures
    (subst (TellsWay c.in-Some.model.now c.args.type_index c.args.text.now) c.in-Refused.is c.in_ok-path.ensures)

pub find_along-requires-clause-ends : goal.find_along-requires-clause-ends
find_along-requires-clause-ends c =
    walk_ends c.in-Some.model.now c.args.type_index c.args.text.now c.in-Resolved.path
    (subst (TellsWay c.in-Some.model.now c.args.type_index c.args.text.now) c.in-Resolved.is c.in_ok-path.ensures)

pub returns-in-Some-walk_of : goal.returns-in-Some-walk_of
returns-in-Some-walk_of c =
    type_lists c.in-Some.model.now c.args.type_index c.args.text.now (view c.args.value.now) c.args.consumer.now c.in-Resolved.path c.find_along.result c.in-Some.ensures
    (subst (TellsWay c.in-Some.model.now c.args.type_index c.args.text.now) c.in-Resolved.is c.in_ok-path.ensures) c.find_along.ensures

pub returns : goal.returns
returns c =
    no_walk c.in-Some.model.now c.args.type_index c.args.text.now (view c.args.value.now) c.args.consumer.now c.in-Resolved.path c.in-Some.ensures
    (subst (TellsWay c.in-Some.model.now c.args.type_index c.args.text.now) c.in-Resolved.is c.in_ok-path.ensures) c.in-None.ensures
