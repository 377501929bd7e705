use Rattle.std.proofs.Common.{sym, subst, ap, ◌∙◌}
use Rattle.schema_model.specs.Parts.{shape_fields}
use Rattle.json_rows.specs.FieldOrder.{IsByteOrder}
use Rattle.json_rows.specs.LineForm.{places_of}
use Rattle.json_rows.proofs.Leads.{if_ok_both}
use Rattle.json_rows.proofs.form.record_leads.Goals as goal

pub returns : goal.returns
returns c =
    let fields = shape_fields c.args.schema.now.shape in
    let ordered = c.in_ok-order.ensures in
    if_ok_both c.leads_of.result _ _ _ (λ leads texts places. record {
      texts = texts fields (subst (IsByteOrder fields) (sym c.as_slice.ensures.value) ordered);
      ordered = (c.in_ok-order.order.items, ordered, places ∙ ap places_of c.as_slice.ensures.value);
    }) c.leads_of.ensures.leads c.leads_of.ensures.places
