use Rattle.read_engine.specs.Indexes.{index_by}
use Rattle.serde_json.specs.View.{view}
use Rattle.consumer_orders.proofs.KeyWays.{own_types}
use Rattle.consumer_orders.proofs.LookingUp.{found_rows, no_key, number_inside}
use Rattle.consumer_orders.proofs.look_up.look_up_in.Goals as goal

pub key_from-requires : goal.key_from-requires
key_from-requires c = record { resolved = own_types c.args.model.now c.requires.kept.0 c.args.paths.now c.requires.kept.1 }

pub find-requires : goal.find-requires
find-requires c = number_inside c.args.consumer.now c.args.number (index_by c.requires.kept.0 c.args.paths.now) c.requires.kept.2

pub returns-in_ok-find-in-Ok : goal.returns-in_ok-find-in-Ok
returns-in_ok-find-in-Ok c = λ t at.
    found_rows c.args.consumer.now c.args.model.now c.args.number t c.args.paths.now (view c.args.values.now) _ c.in_ok-find-in-Ok.field-0 c.requires.model at c.in-Ok.ensures.tells c.in_ok-find-in-Ok.ensures

pub returns-in-Err-Shape : goal.returns-in-Err-Shape
returns-in-Err-Shape c = λ t at.
    no_key c.args.consumer.now c.args.model.now c.args.number t c.args.paths.now (view c.args.values.now) c.in-Err-Shape.field-0 c.requires.model at c.in-Err-Shape.field-0-is c.in-Err-Shape.ensures.tells
