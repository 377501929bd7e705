use Rattle.std.proofs.Common.{Ok, sym, subst}
use Rattle.hol_orders.specs.declared.order_stop.OrderStop.{OrderStop}
use Rattle.hol_history.specs.History.{PastSteps}
use Rattle.hol_answers.specs.declared.reply.Reply.TheVariants as reply
use Rattle.hollow_machine.specs.HistoryOrders.{HistoryStep}
use Rattle.hollow_machine.specs.Kept.{IsReader, MovesReader, reader_of}
use Rattle.history_orders.proofs.Bounding.{bounded, leads_none}
use Rattle.history_orders.proofs.history_order.history.Goals as goal

pub returns-clause-step : goal.returns-clause-step
returns-clause-step c = λ held consumer version.
    subst (λ (new : PastSteps). MovesReader {E = OrderStop} (λ machine reply next. HistoryStep machine c.args.bound reply next) held (reader_of consumer version c.args.history.now) (reader_of consumer version new) (Ok (reply.History c.args.bound)))
    (sym c.new.ensures) (bounded OrderStop held consumer version c.args.history.now c.args.bound)

pub returns-clause-reading : goal.returns-clause-reading
returns-clause-reading c = λ consumer version leads.
    subst (λ (new : PastSteps). IsReader (reader_of consumer version new)) (sym c.new.ensures) (leads_none consumer version c.args.history.now c.args.bound leads)
