use Rattle.std.proofs.Common.{◌≤◌, ◌<◌, List, ℕ, get_or, length, subst, arith}
use Rattle.hollow_machine.specs.HistoryOrders.{HaveKey}
use Rattle.history_orders.proofs.Showing.{key_shown, one_of}
use Rattle.history_orders.proofs.was_get_order.was_one.Goals as goal

pub returns-in-Ok-clause-reply : goal.returns-in-Ok-clause-reply
returns-in-Ok-clause-reply g c =
    let table = g.R.Rows.table c.args.rows.now in
    let some : 1 ≤ length c.args.ordinals.now = omega (arith, c.in-len1.len_at_least) in
    let few : length c.args.ordinals.now < 2 = omega (arith, c.in-len1.len_below) in
    λ now name values same have.
    key_shown (g.R.Rows.schemas c.args.rows.now) table c.args.type_index (get_or c.args.ordinals.now 0 0) now same name values c.in-Ok.row
    (subst (λ (ordinals : List ℕ). HaveKey values table now c.args.type_index ordinals) (one_of c.args.ordinals.now some few) have) c.in-Ok.ensures
