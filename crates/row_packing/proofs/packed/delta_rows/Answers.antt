use Rattle.std.proofs.Common.{sym, ap, ◌∙◌, subst, slice_get, List, Option}
use Rattle.schema_model.specs.Model.{IsModel}
use Rattle.row_model.specs.declared.row.Row.{Row}
use Rattle.schema_model.specs.declared.schema.Schema.{Schema}
use Rattle.row_packing.specs.Places.{places_under}
use Rattle.row_packing.specs.Packs.{CanPackPlaces}
use Rattle.row_packing.proofs.Suiting.{can_pack_delta}
use Rattle.row_packing.proofs.packed.delta_rows.Goals as goal

pub pack-requires : goal.pack-requires
pack-requires g c =
    let model = c.model.ensures.model in
    subst (λ (places : List (Option Row)). CanPackPlaces c.schema.result.now.shape c.args.chosen.now.widths places) (sym (ap (places_under (g.R.Rows.table c.args.rows.now) c.args.type_index) c.as_slice.ensures))
    (can_pack_delta (g.R.Rows.schemas c.args.rows.now) c.args.type_index c.schema.result.now (ap (λ (ss : List Schema). slice_get ss c.args.type_index) (sym model) ∙ c.schema.ensures.value) (subst IsModel model c.schema.ensures.model)
    (g.R.Rows.table c.args.rows.now) c.args.chosen.now c.args.added.now c.requires.chosen c.requires.added)
