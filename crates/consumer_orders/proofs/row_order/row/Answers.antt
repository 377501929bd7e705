use Rattle.std.proofs.Common.{subst}
use Rattle.consumer_orders.specs.Asked.{TellsType}
use Rattle.consumer_orders.proofs.Asking.{inside}
use Rattle.consumer_orders.proofs.row_order.row.Goals as goal

pub show_row-requires-clause-type_in : goal.show_row-requires-clause-type_in
show_row-requires-clause-type_in c = inside c.args.consumer.now c.args.name.now c.in-At.type_index c.now.result.schemas (subst (TellsType c.args.consumer.now c.args.name.now) c.in-At.is c.in_ok-type_index.ensures) c.now.ensures.schemas
