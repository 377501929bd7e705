use Rattle.std.proofs.Common.{arith, ap}
use Rattle.std.specs.Prelude.{slice_index_or}
use Rattle.std.specs.Option.{option_copied}
use Rattle.row_model.specs.Lent.{lent_row}
use Rattle.history_orders.proofs.Following.{followed}
use Rattle.history_orders.proofs.key_rows.+has_value.Goals as goal

pub has_value-requires : goal.has_value-requires
has_value-requires g t c = λ κs within.
    let next =
    followed (g.R.Rows.schemas c.args.rows.now) c.model.result.now (g.R.Rows.table c.args.rows.now) c.args.type_index c.args.ordinal (slice_index_or c.args.fields.now 0 0) c.in-Ref-Some.next c.in-Ref-Some.named
    (lent_row c.in_ok-lent.lent) c.row.result.now (option_copied c.value_in.result) c.in-Some.found.now c.type_behind.result c.requires.closed c.model.ensures.fits c.model.ensures.model
    c.in_ok-lent.ensures c.row.ensures c.value_in.ensures (ap option_copied c.in-Some.is) c.in-Ref-Some.is-0 c.type_behind.ensures c.in-Ref-Some.is-1 in
    ((let here = c.decreases in omega (arith, here)), (within, (next.0, (c.requires.closed, next.1))))
