use Rattle.std.proofs.Common.{sym, subst, ap, ◌∙◌}
use Rattle.std.specs.Prelude.{◌↔◌, false, IsTrue}
use Rattle.row_model.specs.Table.{IsLive}
use Rattle.row_model.specs.View.{place_in}
use Rattle.seen_rows.proofs.ViewPlaces.{live_here, live_there, none_seen}
use Rattle.seen_rows.proofs.seen.SeenRows.is_live.Goals as goal

pub returns-in-Some : goal.returns-in-Some
returns-in-Some g c =
    let is = ap (λ own. place_in own c.self.inside.model.now c.args.type_index) (sym c.model.ensures.model) ∙ sym c.place_of.ensures ∙ c.in-Some.is in
    subst (λ rows. IsTrue c.is_live.result ↔ IsLive rows.table c.args.type_index c.args.ordinal) c.self.view_is (
      λ yes_it_is. live_here (g.R.Rows.schemas c.self.inside.rows.now) c.self.inside.model.now (g.R.Rows.table c.self.inside.rows.now) c.args.type_index c.in-Some.place is c.args.ordinal (c.is_live.ensures.0 yes_it_is),
      λ live. c.is_live.ensures.1 (live_there (g.R.Rows.schemas c.self.inside.rows.now) c.self.inside.model.now (g.R.Rows.table c.self.inside.rows.now) c.args.type_index c.in-Some.place is c.args.ordinal live),
    )

pub returns-in-None : goal.returns-in-None
returns-in-None g c =
    let is = ap (λ own. place_in own c.self.inside.model.now c.args.type_index) (sym c.model.ensures.model) ∙ sym c.place_of.ensures ∙ c.in-None.is in
    subst (λ rows. IsTrue false ↔ IsLive rows.table c.args.type_index c.args.ordinal) c.self.view_is
    (λ never. absurd cc, λ live. absurd (none_seen (g.R.Rows.schemas c.self.inside.rows.now) c.self.inside.model.now (g.R.Rows.table c.self.inside.rows.now) c.args.type_index is c.args.ordinal live))
