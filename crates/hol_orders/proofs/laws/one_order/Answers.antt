use Rattle.hol_orders.proofs.Told.{one_order}
use Rattle.hol_orders.proofs.laws.one_order.Goals as goal

pub returns : goal.returns
returns c = one_order
