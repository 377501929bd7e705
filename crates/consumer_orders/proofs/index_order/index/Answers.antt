use Rattle.std.proofs.Common.{subst}
use Rattle.serde_json.specs.View.{view}
use Rattle.hol_orders.specs.declared.order_stop.OrderStop.{OrderStop}
use Rattle.hollow_machine.specs.KeyPaths.{texts_of_array}
use Rattle.consumer_orders.specs.Asked.{TellsType}
use Rattle.consumer_orders.proofs.Asking.{inside_model}
use Rattle.consumer_orders.proofs.Indexing.{index_moves, index_reads, no_type}
use Rattle.consumer_orders.proofs.index_order.index.Goals as goal

pub returns-in-Refused-clause-step : goal.returns-in-Refused-clause-step
returns-in-Refused-clause-step c = λ held version history.
    no_type OrderStop held version history c.args.consumer.now c.args.name.now (texts_of_array (view c.args.paths.now)) c.in-Refused.refusal (subst (TellsType c.args.consumer.now c.args.name.now) c.in-Refused.is c.in_ok-type_index.ensures)

pub keep_index-requires-clause-type_in : goal.keep_index-requires-clause-type_in
keep_index-requires-clause-type_in c = inside_model c.args.consumer.now c.args.name.now c.in-At.type_index (subst (TellsType c.args.consumer.now c.args.name.now) c.in-At.is c.in_ok-type_index.ensures)

pub returns-clause-step : goal.returns-clause-step
returns-clause-step c = λ held version history.
    index_moves OrderStop held version history c.args.consumer.now c.keep_index.new.consumer c.args.name.now c.in_ok-texts.texts (texts_of_array (view c.args.paths.now)) c.in-At.type_index c.keep_index.result
    (subst (TellsType c.args.consumer.now c.args.name.now) c.in-At.is c.in_ok-type_index.ensures) c.in_ok-texts.ensures c.keep_index.ensures.kept

pub returns-clause-reading : goal.returns-clause-reading
returns-clause-reading c = λ version history.
    index_reads OrderStop version history c.args.consumer.now c.keep_index.new.consumer c.args.name.now c.in_ok-texts.texts c.in-At.type_index c.keep_index.result c.keep_index.ensures.kept c.keep_index.ensures.stopped
