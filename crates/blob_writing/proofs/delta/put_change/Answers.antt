use Rattle.std.proofs.Common.{◌∙◌, List, sym, ap, subst}
use Rattle.std.specs.Prelude.{slice_get}
use Rattle.std.specs.List.Sorted.{IsStrictlyIncreasing}
use Rattle.schema_model.specs.declared.schema.Schema.{Schema}
use Rattle.row_packing.specs.Places.{AreAdded}
use Rattle.blob_writing.proofs.OneDelta.{gone_live, put_changed}
use Rattle.blob_writing.proofs.Planning.{added_there, chosen_there, has_added, has_chosen, has_removed, removed_there, suits_new}
use Rattle.blob_writing.proofs.delta.put_change.Goals as goal

pub get-chosen-requires : goal.get-chosen-requires
get-chosen-requires g c =
    has_chosen (g.B.Rows.schemas c.args.new.now) (g.A.Rows.table c.args.old.now) (g.B.Rows.table c.args.new.now) c.args.plan.now c.requires.plan c.args.type_index c.requires.known

pub get-removed-requires : goal.get-removed-requires
get-removed-requires g c =
    has_removed (g.B.Rows.schemas c.args.new.now) (g.A.Rows.table c.args.old.now) (g.B.Rows.table c.args.new.now) c.args.plan.now c.requires.plan c.args.type_index c.requires.known

pub get-added-requires : goal.get-added-requires
get-added-requires g c =
    has_added (g.B.Rows.schemas c.args.new.now) (g.A.Rows.table c.args.old.now) (g.B.Rows.table c.args.new.now) c.args.plan.now c.requires.plan c.args.type_index c.requires.known

pub delta_rows-requires-clause-chosen : goal.delta_rows-requires-clause-chosen
delta_rows-requires-clause-chosen g c =
    suits_new (g.B.Rows.schemas c.args.new.now) (g.A.Rows.table c.args.old.now) (g.B.Rows.table c.args.new.now) c.args.plan.now c.requires.plan c.args.type_index c.requires.states c.requires.known
    c.get-chosen.result.now c.get-chosen.ensures

pub delta_rows-requires-clause-added : goal.delta_rows-requires-clause-added
delta_rows-requires-clause-added g c =
    let old = g.A.Rows.table c.args.old.now in
    let new = g.B.Rows.table c.args.new.now in
    let added = added_there (g.B.Rows.schemas c.args.new.now) old new c.args.plan.now c.requires.plan c.args.type_index c.get-added.result.now c.get-added.ensures in
    subst (AreAdded new c.args.type_index) (sym added) (gone_live new old c.args.type_index)

pub put_delta_type-requires-clause-spellable : goal.put_delta_type-requires-clause-spellable
put_delta_type-requires-clause-spellable g c =
    c.spellable_model.ensures c.model.result.now c.args.type_index c.schema-schema.result.now c.schema-schema.ensures.model c.schema-schema.ensures.value
    (c.requires.few c.schema-schema.result.now (ap (λ (ss : List Schema). slice_get ss c.args.type_index) (sym c.model.ensures.model) ∙ c.schema-schema.ensures.value))

pub put_delta_type-requires-clause-removed : goal.put_delta_type-requires-clause-removed
put_delta_type-requires-clause-removed g c =
    let old = g.A.Rows.table c.args.old.now in
    let new = g.B.Rows.table c.args.new.now in
    let removed = removed_there (g.B.Rows.schemas c.args.new.now) old new c.args.plan.now c.requires.plan c.args.type_index c.get-removed.result.now c.get-removed.ensures in
    subst IsStrictlyIncreasing (sym removed) (gone_live old new c.args.type_index).rising

pub put_delta_type-requires-clause-added : goal.put_delta_type-requires-clause-added
put_delta_type-requires-clause-added g c =
    let old = g.A.Rows.table c.args.old.now in
    let new = g.B.Rows.table c.args.new.now in
    let added = added_there (g.B.Rows.schemas c.args.new.now) old new c.args.plan.now c.requires.plan c.args.type_index c.get-added.result.now c.get-added.ensures in
    subst IsStrictlyIncreasing (sym added) (gone_live new old c.args.type_index).rising

pub returns : goal.returns
returns g c =
    let schemas = g.B.Rows.schemas c.args.new.now in
    let old = g.A.Rows.table c.args.old.now in
    let new = g.B.Rows.table c.args.new.now in
    let index = c.args.type_index in
    let plan = c.args.plan.now in
    put_changed schemas old new index c.schema-schema.result.now c.get-chosen.result.now c.in_ok-packed.packed c.get-removed.result.now c.get-added.result.now
    c.put_delta_type.result c.args.out.now.items c.put_delta_type.new.out.items
    (ap (λ (ss : List Schema). slice_get ss index) (sym c.model.ensures.model) ∙ c.schema-schema.ensures.value)
    (chosen_there schemas old new plan c.requires.plan index c.get-chosen.result.now c.get-chosen.ensures) c.in_ok-packed.ensures
    (removed_there schemas old new plan c.requires.plan index c.get-removed.result.now c.get-removed.ensures)
    (added_there schemas old new plan c.requires.plan index c.get-added.result.now c.get-added.ensures) c.put_delta_type.ensures.ok c.put_delta_type.ensures.fits
