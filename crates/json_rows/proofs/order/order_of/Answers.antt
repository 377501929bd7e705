use Rattle.std.proofs.Common.{◌≡◌, IfOk, string_bytes, sym, subst, arith, rules}
use Rattle.std.proofs.lemmas.Result.{IfOk-weaker}
use Rattle.json_rows.specs.FieldOrder.{IsByteOrder}
use Rattle.json_rows.proofs.Orders.{one_ordered, all_ordered}
use Rattle.json_rows.proofs.order.order_of.Goals as goal

pub loop-place-preserved : goal.loop-place-preserved
loop-place-preserved c =
    let field = c.index-fields-place.result in
    let copied : string_bytes c.in_ok-from_str.field-0 ≡ field.name = search rules in
    one_ordered c.args.fields.now c.loop-place.place field c.in_ok-from_str.field-0 c.loop-place.by_name.entries _ c.loop-place-test.true
    c.index-fields-place.is copied c.in_ok-insert.ensures.entries c.loop-place.invariant

pub returns : goal.returns
returns c =
    let collected : IfOk c.collect.result (λ order. order.items ≡ c.loop-place.by_name.entries) = search rules in
    let all = all_ordered c.args.fields.now c.loop-place.place c.loop-place.by_name.entries (omega arith) c.loop-place.invariant in
    IfOk-weaker c.collect.result _ _ (λ order same. subst (IsByteOrder c.args.fields.now) (sym same) all) collected
