use Rattle.std.proofs.Common.{◌≡◌, false, rules}
use Rattle.serde_json.specs.View.{view}
use Rattle.hol_orders.proofs.OfKind.{no_stat}
use Rattle.hol_orders.proofs.shapes.stat_order.Goals as goal

pub returns-then-not-is_true : goal.returns-then-not-is_true
returns-then-not-is_true c = let other : c.is_true.result ≡ false = search rules in no_stat (view c.args.content) c.is_true.result c.is_true.ensures other
