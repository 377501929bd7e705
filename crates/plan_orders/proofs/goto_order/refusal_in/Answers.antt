use Rattle.plan_orders.proofs.Going.{not_refused}
use Rattle.plan_orders.proofs.goto_order.refusal_in.Goals as goal

pub returns : goal.returns
returns c = not_refused c.args.reply c.in_default.not-Refused
