use Rattle.std.proofs.Common.{nat_lt, ◌∷◌, [], ◌++◌, ap, ◌∙◌, arith}
use Rattle.json.specs.Print.{quoted}
use Rattle.serde_json.specs.Written.{comma_if}
use Rattle.json_rows.proofs.Leads.{one_leads, all_leads, all_places}
use Rattle.json_rows.proofs.form.leads_of.Goals as goal

pub loop-index-preserved : goal.loop-index-preserved
loop-index-preserved c =
    let l = c.loop-index in
    one_leads c.args.order.now l.leads.items _ l.index c.index-order-index.result c.in_ok-lead_of.field-0 (omega arith) c.index-order-index.is
    (c.in_ok-lead_of.ensures ∙ ap (λ n. comma_if (nat_lt 0 l.index) ++ (quoted n ++ 58 ∷ [])) c.as_str.ensures.value) c.in_ok-push.ensures.items l.invariant

pub returns-clause-places : goal.returns-clause-places
returns-clause-places c = all_places c.args.order.now c.loop-index.leads.items c.loop-index.index (omega arith) c.loop-index.invariant

pub returns-clause-leads : goal.returns-clause-leads
returns-clause-leads c = λ fields ordered.
    all_leads fields c.args.order.now c.loop-index.leads.items c.loop-index.index (omega arith) ordered c.loop-index.invariant
