use Rattle.std.proofs.Common.{rules, ◌≤◌, arith, subst, sym}
use Rattle.serde_json.specs.View.{view}
use Rattle.serde_json.specs.declared.value.Value.{Value}
use Rattle.row_model.specs.PlainTree.{node_count}
use Rattle.row_model.specs.Table.{IsLive}
use Rattle.row_model.specs.Unfold.{unfold_row}
use Rattle.record_json.specs.PrintTree.{PrintsTree}
use Rattle.consumer_orders.proofs.ShownRows.{is_shown}
use Rattle.consumer_orders.proofs.row_order.show_row.Goals as goal

pub returns-in-Ok-clause-reply : goal.returns-in-Ok-clause-reply
returns-in-Ok-clause-reply g c =
    let schemas = g.R.Rows.schemas c.args.rows.now in
    let table = g.R.Rows.table c.args.rows.now in
    let t = c.args.type_index in
    let ordinal = c.args.ordinal in
    let live : IsLive table t ordinal = search rules in
    let few : node_count (unfold_row schemas table t ordinal) ≤ 1048576 = omega (arith, c.in-Ok.ensures.budget) in
    let prints = subst (λ (value : Value). PrintsTree schemas t (unfold_row schemas table t ordinal) (view value)) (sym c.new.ensures) c.in-Ok.ensures.prints in
    λ now same rows. is_shown schemas table c.args.name.now t ordinal c.new.result now same rows (live, few, prints)
