use Rattle.std.proofs.Common.{sym, ap, ◌∙◌, subst, slice_get, ℕ, List}
use Rattle.std.specs.List.{range_with_len}
use Rattle.schema_model.specs.Model.{IsModel}
use Rattle.schema_model.specs.declared.schema.Schema.{Schema}
use Rattle.row_packing.specs.Packs.{CanPackPlaces}
use Rattle.row_packing.specs.Places.{places_under}
use Rattle.row_packing.proofs.Suiting.{can_pack_snapshot}
use Rattle.row_packing.proofs.packed.snapshot_rows.Goals as goal

pub pack-requires : goal.pack-requires
pack-requires g c =
    let model = c.model.ensures.model in
    let count = c.place_count.ensures.is in
    subst (λ (places : ℕ). CanPackPlaces c.schema.result.now.shape c.args.chosen.now.widths (places_under (g.R.Rows.table c.args.rows.now) c.args.type_index (range_with_len 0 places))) (sym count)
    (can_pack_snapshot (g.R.Rows.schemas c.args.rows.now) c.args.type_index c.schema.result.now (ap (λ (ss : List Schema). slice_get ss c.args.type_index) (sym model) ∙ c.schema.ensures.value) (subst IsModel model c.schema.ensures.model)
    (g.R.Rows.table c.args.rows.now) c.args.chosen.now c.requires.chosen)
