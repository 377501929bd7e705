use Rattle.std.proofs.Common.{◌≡◌, ◌<◌, Some, sym, subst, ap, ◌∙◌, length, slice_get}
use Rattle.row_model.specs.Table.{IsLive, row_at}
use Rattle.row_model.specs.View.{place_in, seen_row}
use Rattle.seen_rows.proofs.ViewPlaces.{live_there, none_seen, ok_weaker, place_below, row_there, type_below}
use Rattle.seen_rows.proofs.seen.SeenRows.row.Goals as goal

pub unreachable-requires : goal.unreachable-requires
unreachable-requires g c =
    none_seen (g.R.Rows.schemas c.self.inside.rows.now) c.self.inside.model.now (g.R.Rows.table c.self.inside.rows.now) c.args.type_index
    (ap (λ own. place_in own c.self.inside.model.now c.args.type_index) (sym c.model.ensures.model) ∙ sym c.place_of.ensures ∙ c.in_default.is) c.args.ordinal
    (subst (λ rows. IsLive rows.table c.args.type_index c.args.ordinal) (sym c.self.view_is) c.requires)

pub row-requires : goal.row-requires
row-requires g c =
    live_there (g.R.Rows.schemas c.self.inside.rows.now) c.self.inside.model.now (g.R.Rows.table c.self.inside.rows.now) c.args.type_index c.in-Some.place
    (ap (λ own. place_in own c.self.inside.model.now c.args.type_index) (sym c.model.ensures.model) ∙ sym c.place_of.ensures ∙ c.in-Some.is) c.args.ordinal
    (subst (λ rows. IsLive rows.table c.args.type_index c.args.ordinal) (sym c.self.view_is) c.requires)

pub schema-requires : goal.schema-requires
schema-requires g c =
    subst (λ own. c.in-Some.place < length own) (sym c.model-2.ensures.model)
    (place_below (g.R.Rows.schemas c.self.inside.rows.now) c.self.inside.model.now (g.R.Rows.table c.self.inside.rows.now) c.args.type_index c.in-Some.place
    (ap (λ own. place_in own c.self.inside.model.now c.args.type_index) (sym c.model.ensures.model) ∙ sym c.place_of.ensures ∙ c.in-Some.is))

pub schema-requires-2 : goal.schema-requires-2
schema-requires-2 g c =
    type_below (g.R.Rows.schemas c.self.inside.rows.now) c.self.inside.model.now (g.R.Rows.table c.self.inside.rows.now) c.args.type_index c.in-Some.place
    (ap (λ own. place_in own c.self.inside.model.now c.args.type_index) (sym c.model.ensures.model) ∙ sym c.place_of.ensures ∙ c.in-Some.is)

pub returns : goal.returns
returns g c =
    let is = ap (λ own. place_in own c.self.inside.model.now c.args.type_index) (sym c.model.ensures.model) ∙ sym c.place_of.ensures ∙ c.in-Some.is in
    let there = row_there (g.R.Rows.schemas c.self.inside.rows.now) c.self.inside.model.now (g.R.Rows.table c.self.inside.rows.now) c.args.type_index c.in-Some.place is c.args.ordinal
    c.schema.result.now c.schema-2.result.now c.in_ok-row.row (ap (λ own. slice_get own c.in-Some.place) (sym c.model-2.ensures.model) ∙ c.schema.ensures.value) c.schema-2.ensures.value c.in_ok-row.ensures in
    ok_weaker (λ seen. seen ≡ seen_row c.schema.result.now.shape c.schema-2.result.now.shape c.in_ok-row.row) (λ row. row_at c.args.self.now.table c.args.type_index c.args.ordinal ≡ Some row) c.seen_row.result c.seen_row.ensures
    (λ row seen. subst (λ rows. row_at rows.table c.args.type_index c.args.ordinal ≡ Some row) c.self.view_is (there ∙ ap Some (sym seen)))
