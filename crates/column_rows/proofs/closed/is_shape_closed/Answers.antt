use Rattle.column_rows.proofs.Closing.{shape_records_closed}
use Rattle.column_rows.proofs.closed.is_shape_closed.Goals as goal

pub returns-in-Object : goal.returns-in-Object
returns-in-Object g c = λ done ordinal looked.
    shape_records_closed (g.R.Rows.schemas c.args.rows.now) (g.R.Rows.table c.args.rows.now) c.args.type_index c.args.shape.now c.in-Object.field-0 c.in-Object.fields c.as_slice.result.now c.in-Object.is c.as_slice.ensures ordinal (λ index field at. c.fields_closed.ensures done index field at ordinal looked)
