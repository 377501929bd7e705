use Rattle.std.proofs.Common.{Some, length, sym, ap, subst, ◌∙◌}
use Rattle.std.proofs.lemmas.Result.{on_ok_weaker}
use Rattle.schema_model.specs.Parts.{shape_fields}
use Rattle.json_rows.specs.FieldOrder.{AreBelow, Order}
use Rattle.json_rows.specs.LineForm.{AreLeads}
use Rattle.json_rows.specs.RowLine.{values_of}
use Rattle.json_rows.specs.Standing.{IsStandingIn}
use Rattle.json_rows.specs.declared.standing.Standing.{Standing}
use Rattle.json_rows.proofs.Put.{values_below}
use Rattle.json_rows.proofs.Stands.{columns_put}
use Rattle.json_rows.proofs.line.put_standing.Goals as goal

pub put_list-requires-clause-below : goal.put_list-requires-clause-below
put_list-requires-clause-below g c = λ row at.
    let form = c.args.lines.now.form in
    let schema = form.schema.now in
    subst (λ (leads : Order). AreBelow (length (values_of row)) leads) (sym c.as_slice-leads.ensures.value)
    (values_below schema.shape row form.leads.items (c.requires.fits.rows c.args.type_index c.args.ordinal schema row c.requires.lines.schema at) c.requires.lines.formed.leads.below)

pub put_lent-requires-clause-below : goal.put_lent-requires-clause-below
put_lent-requires-clause-below g c = λ row at.
    let form = c.args.lines.now.form in
    let schema = form.schema.now in
    subst (λ (leads : Order). AreBelow (length (values_of row)) leads) (sym c.as_slice-leads.ensures.value)
    (values_below schema.shape row form.leads.items (c.requires.fits.rows c.args.type_index c.args.ordinal schema row c.requires.lines.schema at) c.requires.lines.formed.leads.below)

pub returns-in-Columns-clause-put : goal.returns-in-Columns-clause-put
returns-in-Columns-clause-put g c =
    let table = g.R.Rows.table c.args.rows.now in
    let form = c.args.lines.now.form in
    let schema = form.schema.now in
    let standing = subst (λ (place : Standing). IsStandingIn table c.args.type_index schema.shape place) c.in-Columns.is c.requires.lines.standing in
    let leads : AreLeads (shape_fields schema.shape) c.as_slice-leads.result.now = subst (λ (l : Order). AreLeads (shape_fields schema.shape) l) (sym c.as_slice-leads.ensures.value) c.requires.lines.formed.leads in
    on_ok_weaker c.put_columns.result (λ put row at.
    let fits = c.requires.fits.rows c.args.type_index c.args.ordinal schema row c.requires.lines.schema at in
    columns_put c.as_slice-leads.result.now schema.shape row c.args.out.now.items c.put_columns.new.out.items standing.0 fits
    (λ values is long. put values (at ∙ ap Some is) (long ∙ sym standing.1.long ∙ sym (ap length c.as_slice-columns.ensures.value))) schema.shape leads fits) c.put_columns.ensures.put
