use Rattle.row_packing.specs.Chosen.{shape_at}
use Rattle.row_packing.proofs.Measuring.{held_is}
use Rattle.row_packing.proofs.measured.held_in.Goals as goal

pub returns-clause-held : goal.returns-clause-held
returns-clause-held g c =
    held_is (shape_at (g.R.Rows.schemas c.args.rows.now) c.args.type_index) (g.R.Rows.table c.args.rows.now) c.args.type_index c.in_ok-total.field-0 c.in_ok-bytes.field-0 c.in_ok-total.ensures
    c.in_ok-bytes.ensures.bytes
