use Rattle.std.proofs.Common.{rules, ◌<◌, ◌-◌, drop, length, take}
use Rattle.history_orders.proofs.Valued.{led_found}
use Rattle.history_orders.proofs.key_columns.+rows_led.Goals as goal

pub returns : goal.returns
returns g t c =
    let more = take (length c.args.fields.now - 1) (drop 1 c.args.fields.now) in
    let some : 0 < length more = search rules in
    led_found (g.R.Rows.schemas c.args.rows.now) c.model.result.now (g.R.Rows.table c.args.rows.now) c.args.type_index c.in-Some-type_led.next c.args.fields.now c.as_slice.result.now c.args.value.now
    c.in_ok-ends.field-0 c.in-Some-2.ends c.rows_naming.result c.requires.closed c.model.ensures.model c.in-len1-up.len_at_least some c.in-Some-type_led.ensures c.in_ok-ends.ensures c.in-Some-2.is
    c.as_slice.ensures.value c.rows_naming.ensures
