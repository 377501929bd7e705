use Rattle.std.proofs.Common.{◌≡◌, Some, arith}
use Rattle.object_codec.specs.Stored.{stored_number}
use Rattle.history_orders.proofs.Scanning.{past_valued}
use Rattle.history_orders.proofs.key_columns.add_with_number.Goals as goal

pub returns-then-number-all_ones : goal.returns-then-number-all_ones
returns-then-number-all_ones g c =
    let told = c.stored_number.ensures.is in
    let some = c.in-Some.is in
    let is : stored_number c.args.value.now ≡ Some c.in-Some.number = cc in
    past_valued (g.R.Rows.table c.args.rows.now) c.args.type_index c.args.field c.args.column.now c.args.value.now c.in-Some.number c.requires is c.bound-bound.result c.args.among.now.items
    (omega (arith, c.all_ones.ensures, c.if-number-all_ones.true))
