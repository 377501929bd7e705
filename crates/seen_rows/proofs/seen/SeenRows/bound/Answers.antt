use Rattle.std.proofs.Common.{sym, subst, ap, ◌∙◌}
use Rattle.row_model.specs.Table.{IsBound}
use Rattle.row_model.specs.View.{place_in}
use Rattle.seen_rows.proofs.ViewPlaces.{bound_none, bound_there}
use Rattle.seen_rows.proofs.seen.SeenRows.bound.Goals as goal

pub returns-in-Some : goal.returns-in-Some
returns-in-Some g c =
    subst (λ rows. IsBound rows.table c.args.type_index c.bound.result) c.self.view_is
    (bound_there (g.R.Rows.schemas c.self.inside.rows.now) c.self.inside.model.now (g.R.Rows.table c.self.inside.rows.now) c.args.type_index c.in-Some.place c.bound.result
    (ap (λ own. place_in own c.self.inside.model.now c.args.type_index) (sym c.model.ensures.model) ∙ sym c.place_of.ensures ∙ c.in-Some.is) c.bound.ensures)

pub returns-in-None : goal.returns-in-None
returns-in-None g c =
    subst (λ rows. IsBound rows.table c.args.type_index 0) c.self.view_is
    (bound_none (g.R.Rows.schemas c.self.inside.rows.now) c.self.inside.model.now (g.R.Rows.table c.self.inside.rows.now) c.args.type_index
    (ap (λ own. place_in own c.self.inside.model.now c.args.type_index) (sym c.model.ensures.model) ∙ sym c.place_of.ensures ∙ c.in-None.is))
