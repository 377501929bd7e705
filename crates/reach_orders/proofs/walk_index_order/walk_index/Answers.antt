use Rattle.std.proofs.Common.{subst}
use Rattle.hol_orders.specs.declared.order_stop.OrderStop.{OrderStop}
use Rattle.consumer_orders.specs.Asked.{TellsType}
use Rattle.consumer_orders.proofs.Asking.{inside_model}
use Rattle.reach_orders.proofs.Keeping.{no_type, walk_moves, walk_reads}
use Rattle.reach_orders.proofs.walk_index_order.walk_index.Goals as goal

pub returns-in-Refused-clause-step : goal.returns-in-Refused-clause-step
returns-in-Refused-clause-step c = λ held version history.
    no_type OrderStop held version history c.args.consumer.now c.args.name.now c.args.path.now c.in-Refused.refusal (subst (TellsType c.args.consumer.now c.args.name.now) c.in-Refused.is c.in_ok-type_index.ensures)

pub keep_walk-requires-clause-type_in : goal.keep_walk-requires-clause-type_in
keep_walk-requires-clause-type_in c = inside_model c.args.consumer.now c.args.name.now c.in-At.type_index (subst (TellsType c.args.consumer.now c.args.name.now) c.in-At.is c.in_ok-type_index.ensures)

pub returns-clause-step : goal.returns-clause-step
returns-clause-step c = λ held version history.
    walk_moves OrderStop held version history c.args.consumer.now c.keep_walk.new.consumer c.args.name.now c.args.path.now c.in-At.type_index c.keep_walk.result
    (subst (TellsType c.args.consumer.now c.args.name.now) c.in-At.is c.in_ok-type_index.ensures) c.keep_walk.ensures.kept

pub returns-clause-reading : goal.returns-clause-reading
returns-clause-reading c = λ version history.
    walk_reads OrderStop version history c.args.consumer.now c.keep_walk.new.consumer c.args.path.now c.in-At.type_index c.keep_walk.result c.keep_walk.ensures.kept c.keep_walk.ensures.stopped
