use Rattle.std.proofs.Common.{List, ℕ, subst, sym}
use Rattle.std.specs.FinMap.{values}
use Rattle.type_rows.specs.Sums.{AreLaid}
use Rattle.type_rows.proofs.runs.lay_out.Goals as goal

pub returns-clause-tells : goal.returns-clause-tells
returns-clause-tells c =
    let leads = c.in_ok-test_runs.ensures.tells in
    (leads.0, leads.1, subst (λ (lengths : List ℕ). AreLaid c.args.schema.now.shape c.args.section.now.widths (values leads.0) c.in_ok-items.items lengths 0) (sym c.new-lengths.ensures) (c.in_ok-items.ensures.tells leads.0 leads.1))
