use Rattle.std.proofs.Common.{◌∙◌, List, ap, slice_get, subst, sym}
use Rattle.schema_model.specs.Model.{IsModel}
use Rattle.schema_model.specs.declared.schema.Schema.{Schema}
use Rattle.schema_model.specs.declared.schema.Shape.{Shape}
use Rattle.row_packing.specs.Chosen.{shape_at}
use Rattle.row_packing.specs.Packs.{CanPackPlaces}
use Rattle.row_packing.specs.Places.{snapshot_places}
use Rattle.row_packing.proofs.Suiting.{can_pack_snapshot, shape_is}
use Rattle.kept_sections.proofs.sections.section_of.Goals as goal

pub moved_records-requires-clause-room : goal.moved_records-requires-clause-room
moved_records-requires-clause-room g c =
    let schemas = g.B.Rows.schemas c.args.new.now in
    let old = g.A.Rows.table c.args.old.now in
    let new = g.B.Rows.table c.args.new.now in
    let t = c.args.type_index in
    let schema = c.schema.result.now in
    let chosen = c.args.chosen.now in
    let at = ap (λ (s : List Schema). slice_get s t) (sym c.model.ensures.model) ∙ c.schema.ensures.value in
    let suits = c.either_way.ensures.suits_new (shape_at schemas t) old new t chosen c.requires.agree c.requires.keeps c.requires.chosen in
    subst (λ (shape : Shape). CanPackPlaces shape chosen.widths (snapshot_places new t chosen.max)) (sym (shape_is schemas t schema at))
    (can_pack_snapshot schemas t schema at (subst IsModel c.model.ensures.model c.schema.ensures.model) new chosen suits)
