use Rattle.std.proofs.Common.{◌≤◌, ℕ, Err, ap, arith, get_or, length, refl, subst, sym}
use Rattle.serde_json.specs.View.{view}
use Rattle.serde_json.specs.declared.value.Value.{Value}
use Rattle.row_model.specs.Unfold.{unfold_row}
use Rattle.record_json.specs.PrintTree.{PrintsTree}
use Rattle.consumer_orders.proofs.PastRows.{is_over, is_past, one_shown, too_many}
use Rattle.consumer_orders.proofs.past_order.show_past.Goals as goal

pub returns-in-Err-Nodes-clause-reply : goal.returns-in-Err-Nodes-clause-reply
returns-in-Err-Nodes-clause-reply g c =
    let schemas = g.R.Rows.schemas c.args.rows.now in
    let table = g.R.Rows.table c.args.rows.now in
    let over = too_many schemas table c.args.type_index c.args.gone.now c.loop-ordinal.ordinal-index c.loop-ordinal.budget c.loop-ordinal.entries c.loop-ordinal-test.true c.loop-ordinal.invariant (c.in-Err-Nodes.ensures.nodes.0 (ap Err c.in-Err-Nodes.field-0-is)) in
    λ now same rows are. is_over schemas table c.args.type_index c.args.gone.now now over same rows are

pub loop-ordinal-preserved : goal.loop-ordinal-preserved
loop-ordinal-preserved g c =
    let schemas = g.R.Rows.schemas c.args.rows.now in
    let table = g.R.Rows.table c.args.rows.now in
    let t = c.args.type_index in
    let ordinal : ℕ = get_or c.args.gone.now c.loop-ordinal.ordinal-index 0 in
    let prints = subst (λ (value : Value). PrintsTree schemas t (unfold_row schemas table t ordinal) (view value)) (sym c.new.ensures) c.in-Ok.ensures.prints in
    one_shown schemas table t c.args.gone.now c.loop-ordinal.ordinal-index c.loop-ordinal.budget c.tree_value.new.budget c.loop-ordinal.entries c.push.new.self (ordinal, c.new.result) c.loop-ordinal-test.true
    c.loop-ordinal.invariant c.in-Ok.ensures.budget (refl, prints) c.in_ok-push-in-Ok.ensures.ok

pub returns-clause-reply : goal.returns-clause-reply
returns-clause-reply g c =
    let schemas = g.R.Rows.schemas c.args.rows.now in
    let table = g.R.Rows.table c.args.rows.now in
    let past : length c.args.gone.now ≤ c.loop-ordinal.ordinal-index = omega (arith, c.loop-ordinal-test.false, c.loop-ordinal.auto.ordinal-index-end) in
    λ now same rows are. is_past schemas table c.args.type_index c.args.gone.now c.loop-ordinal.ordinal-index c.loop-ordinal.budget c.loop-ordinal.entries now past c.loop-ordinal.invariant same rows are
