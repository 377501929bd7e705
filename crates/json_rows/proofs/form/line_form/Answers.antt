use Rattle.std.proofs.Common.{◌++◌, codes, sym, ap, ◌∙◌, subst}
use Rattle.json.specs.Print.{quoted}
use Rattle.schema_model.specs.Parts.{shape_fields}
use Rattle.json_rows.specs.FieldOrder.{IsByteOrder}
use Rattle.json_rows.proofs.form.line_form.Goals as goal

pub returns-clause-formed : goal.returns-clause-formed
returns-clause-formed c =
    let fields = shape_fields c.args.schema.now.shape in record {
      leads = c.in_ok-leads.ensures.leads fields (subst (IsByteOrder fields) (sym c.as_slice.ensures.value) c.in_ok-order.ensures);
      end = c.in_ok-end.ensures ∙ ap (λ name. codes ",\"type\":" ++ (quoted name ++ codes "}\n")) c.text.ensures;
    }
