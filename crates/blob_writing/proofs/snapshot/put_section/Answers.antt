use Rattle.std.proofs.Common.{◌∙◌, List, sym, ap, subst}
use Rattle.std.specs.Prelude.{slice_get}
use Rattle.ordinal_set.specs.Population.{AreUpTo}
use Rattle.schema_model.specs.declared.schema.Schema.{Schema}
use Rattle.row_packing.proofs.LiveRows.{up_to_greatest}
use Rattle.blob_writing.proofs.Planning.{has_live, live_there}
use Rattle.blob_writing.proofs.WritingSnapshots.{put_carried}
use Rattle.blob_writing.proofs.snapshot.put_section.Goals as goal

pub get-live-requires : goal.get-live-requires
get-live-requires g c =
    has_live (g.B.Rows.schemas c.args.new.now) (g.A.Rows.table c.args.old.now) (g.B.Rows.table c.args.new.now) c.args.plan.now c.requires.plan c.args.type_index c.requires.known

pub put_snapshot_type-requires-clause-spellable : goal.put_snapshot_type-requires-clause-spellable
put_snapshot_type-requires-clause-spellable g c =
    c.spellable_model.ensures c.model.result.now c.args.type_index c.schema.result.now c.schema.ensures.model c.schema.ensures.value
    (c.requires.few c.schema.result.now (ap (λ (ss : List Schema). slice_get ss c.args.type_index) (sym c.model.ensures.model) ∙ c.schema.ensures.value))

pub put_snapshot_type-requires-clause-up_to : goal.put_snapshot_type-requires-clause-up_to
put_snapshot_type-requires-clause-up_to g c =
    let schemas = g.B.Rows.schemas c.args.new.now in
    let old = g.A.Rows.table c.args.old.now in
    let new = g.B.Rows.table c.args.new.now in
    subst (AreUpTo c.args.chosen.now.max) (sym (live_there schemas old new c.args.plan.now c.requires.plan c.args.type_index c.get-live.result.now c.get-live.ensures))
    (up_to_greatest old new c.args.type_index c.args.chosen.now.max c.requires.chosen.max)

pub returns : goal.returns
returns g c =
    let schemas = g.B.Rows.schemas c.args.new.now in
    let old = g.A.Rows.table c.args.old.now in
    let new = g.B.Rows.table c.args.new.now in
    let index = c.args.type_index in
    put_carried schemas old new index c.schema.result.now c.args.chosen.now c.args.packed.now c.get-live.result.now c.put_snapshot_type.result c.args.out.now.items c.put_snapshot_type.new.out.items
    (ap (λ (ss : List Schema). slice_get ss index) (sym c.model.ensures.model) ∙ c.schema.ensures.value) c.requires.chosen c.requires.packed
    (live_there schemas old new c.args.plan.now c.requires.plan index c.get-live.result.now c.get-live.ensures) c.put_snapshot_type.ensures.ok c.put_snapshot_type.ensures.fits
