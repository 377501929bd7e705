use Rattle.std.proofs.Common.{subst}
use Rattle.row_model.specs.Table.{IsTableOf}
use Rattle.hol_history.proofs.OldTables.{table_fits}
use Rattle.hol_history.proofs.old_state.ThenRows.model.Goals as goal

pub returns-clause-fits : goal.returns-clause-fits
returns-clause-fits g c =
    subst (λ state. IsTableOf state.schemas state.table) c.self.view_is
    (table_fits (g.R.Rows.schemas c.self.inside.current.now) (g.R.Rows.table c.self.inside.current.now) c.self.inside.history.now.steps c.self.inside.place c.self.invariant.within c.self.invariant.stands)
