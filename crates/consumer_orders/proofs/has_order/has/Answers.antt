use Rattle.std.proofs.Common.{subst}
use Rattle.consumer_orders.specs.Asked.{TellsType}
use Rattle.consumer_orders.proofs.Asking.{inside_model}
use Rattle.consumer_orders.proofs.has_order.has.Goals as goal

pub has_in-requires : goal.has_in-requires
has_in-requires c = inside_model c.args.consumer.now c.args.name.now c.in-At.type_index (subst (TellsType c.args.consumer.now c.args.name.now) c.in-At.is c.in_ok-type_index.ensures)
