use Rattle.json_rows.proofs.Leads.{HaveLeads}
use Rattle.json_rows.proofs.form.leads_of.Given as goal

abbrev pub invariant-loop-index : goal.invariant-loop-index
invariant-loop-index l = HaveLeads l.order l.index l.leads.items
