use Rattle.serde_json.specs.View.{view}
use Rattle.reach_orders.proofs.Seeking.{found_along, no_value, number_inside}
use Rattle.reach_orders.proofs.walk_find_order.find_along.Goals as goal

pub walk_find-requires : goal.walk_find-requires
walk_find-requires c = number_inside c.args.consumer.now c.args.walk c.args.path.now c.requires.kept

pub returns-in_ok-walk_find-in-Ok : goal.returns-in_ok-walk_find-in-Ok
returns-in_ok-walk_find-in-Ok c =
    found_along c.args.consumer.now c.args.model.now c.args.walk c.args.path.now (view c.args.value.now) _ c.in_ok-walk_find-in-Ok.field-0 c.requires.model c.requires.kept c.in-Ok.ensures c.in_ok-walk_find-in-Ok.ensures

pub returns-in-Err-Shape : goal.returns-in-Err-Shape
returns-in-Err-Shape c =
    no_value c.args.consumer.now c.args.model.now c.args.walk c.args.path.now (view c.args.value.now) c.in-Err-Shape.field-0 c.requires.model c.requires.kept c.in-Err-Shape.field-0-is c.in-Err-Shape.ensures
