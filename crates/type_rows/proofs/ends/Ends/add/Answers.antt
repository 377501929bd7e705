use Rattle.type_rows.proofs.Offsets.{fits_object}
use Rattle.type_rows.proofs.ends.Ends.add.Goals as goal

pub returns-in-Object-Object-clause-fits : goal.returns-in-Object-Object-clause-fits
returns-in-Object-Object-clause-fits c =
    fits_object c.args.shape.now c.args.row.now c.in-Object-Object.field-0-0 c.in-Object-Object.fields _ c.in-Object-Object.values _ c.args.widths.now c.args.self.now.offsets.items _ c.args.self.now.items c.add_values.result
    c.in-Object-Object.is-0 c.in-Object-Object.is-1 c.as_slice.ensures c.as_slice-in-Object-Object.ensures c.deref_mut.ensures.value c.add_values.ensures.fits
