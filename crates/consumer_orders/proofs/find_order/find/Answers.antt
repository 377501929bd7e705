use Rattle.std.proofs.Common.{subst}
use Rattle.consumer_orders.specs.Asked.{TellsType}
use Rattle.consumer_orders.proofs.Asking.{inside_model}
use Rattle.consumer_orders.proofs.find_order.find.Goals as goal

pub look_up-requires : goal.look_up-requires
look_up-requires c = inside_model c.args.consumer.now c.args.name.now c.in-At.type_index (subst (TellsType c.args.consumer.now c.args.name.now) c.in-At.is c.in_ok-type_index.ensures)
