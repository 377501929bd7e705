use Rattle.std.proofs.Common.{◌-◌, ◌∙◌, sym, ap, refl, subst}
use Rattle.serde_json.proofs.Views.{view-Array, view-Object}
use Rattle.serde_json.specs.Data.{array}
use Rattle.serde_json.specs.View.{view, items_view, members_view}
use Rattle.schema_model.specs.declared.schema.Shape.{Shape}
use Rattle.record_trees.specs.Tree.{plain_pair}
use Rattle.json_values.specs.ReadValue.{read_each}
use Rattle.record_json.specs.ReadTree.{TellsAs, key_then, read_fields, read_named, read_pair}
use Rattle.record_json.proofs.TreeParts.{arm, object_arm, both_read, both_stops, other_length}
use Rattle.record_json.proofs.trees.+reading.Goals as goal

pub both_from-returns-then-both-ne2 : goal.both_from-returns-then-both-ne2
both_from-returns-then-both-ne2 t c =
    let follow = read_named c.args.model.now c.args.depth in
    other_length (follow c.args.key.now) (follow c.args.part.now) c.args.both.now c.if-both-ne2.true

pub both_from-returns-in-Err : goal.both_from-returns-in-Err
both_from-returns-in-Err t c =
    let follow = read_named c.args.model.now c.args.depth in
    let first = c.index-both-0.result in
    both_stops (follow c.args.key.now) (follow c.args.part.now) c.args.both.now first c.in-Err.fault c.if-both-ne2.false c.index-both-0.is c.in-Err.ensures

pub both_from-returns-in-Ok : goal.both_from-returns-in-Ok
both_from-returns-in-Ok t c =
    let follow = read_named c.args.model.now c.args.depth in
    let rest = follow c.args.part.now (view c.index-both-1.result) in
    both_read (follow c.args.key.now) (follow c.args.part.now) c.args.both.now c.index-both-0.result c.index-both-1.result c.pair_of.result c.if-both-ne2.false c.index-both-0.is c.index-both-1.is
    (subst (λ k. TellsAs plain_pair (key_then k rest) c.pair_of.result) (sym c.in-Ok.ensures) (c.pair_of.ensures rest c.named_from-in-Ok.ensures))

pub tree_within-returns-else-not-are_all_fields : goal.tree_within-returns-else-not-are_all_fields
tree_within-returns-else-not-are_all_fields t c =
    let follow = read_named c.args.model.now (c.args.depth - 1) in
    let arm = c.in-Object-Object in
    let shown = ap view arm.is-1 ∙ view-Object arm.members in
    let told = c.object_of.ensures (read_fields follow c.as_slice-in-Object-Object.result.now (view c.args.value.now)) c.fields_from.ensures in
    object_arm c.args.model.now c.args.depth c.args.type_index c.schema.result.now arm.field-0-0 arm.fields c.as_slice.result.now c.as_slice-in-Object-Object.result.now (view c.args.value.now) (members_view arm.members.entries) c.object_of.result
    c.if-depth-eq0.false c.schema.ensures.value arm.is-0 shown c.as_slice.ensures c.if-not-are_all_fields.ensures c.as_slice-in-Object-Object.ensures told

pub tree_within-returns-in-List-Array : goal.tree_within-returns-in-List-Array
tree_within-returns-in-List-Array t c =
    let items = c.as_slice-in-List-Array.result.now in
    let shown = ap view c.in-List-Array.is-1 ∙ view-Array c.in-List-Array.items ∙ ap (λ vs. array (items_view vs)) (sym c.as_slice-in-List-Array.ensures.value) in
    let read = read_each (read_named c.args.model.now (c.args.depth - 1) c.in-List-Array.element) (items_view items) in
    arm c.args.model.now c.args.depth c.args.type_index c.schema.result.now (Shape.List c.in-List-Array.element) (view c.args.value.now) (array (items_view items)) _ c.list_of.result
    c.if-depth-eq0.false c.schema.ensures.value c.in-List-Array.is-0 shown refl (c.list_of.ensures read c.elements_from.ensures)

pub tree_within-returns-in-Set-Array : goal.tree_within-returns-in-Set-Array
tree_within-returns-in-Set-Array t c =
    let items = c.as_slice-in-Set-Array.result.now in
    let shown = ap view c.in-Set-Array.is-1 ∙ view-Array c.in-Set-Array.items ∙ ap (λ vs. array (items_view vs)) (sym c.as_slice-in-Set-Array.ensures.value) in
    let read = read_each (read_named c.args.model.now (c.args.depth - 1) c.in-Set-Array.element) (items_view items) in
    arm c.args.model.now c.args.depth c.args.type_index c.schema.result.now (Shape.Set c.in-Set-Array.element) (view c.args.value.now) (array (items_view items)) _ c.set_of.result
    c.if-depth-eq0.false c.schema.ensures.value c.in-Set-Array.is-0 shown refl (c.set_of.ensures read c.elements_from-in-Set-Array.ensures)

pub tree_within-returns-in-Map-Array : goal.tree_within-returns-in-Map-Array
tree_within-returns-in-Map-Array t c =
    let follow = read_named c.args.model.now (c.args.depth - 1) in
    let items = c.as_slice-in-Map-Array.result.now in
    let shown = ap view c.in-Map-Array.is-1 ∙ view-Array c.in-Map-Array.items ∙ ap (λ vs. array (items_view vs)) (sym c.as_slice-in-Map-Array.ensures.value) in
    let read = read_each (read_pair (follow c.in-Map-Array.key) (follow c.in-Map-Array.part)) (items_view items) in
    arm c.args.model.now c.args.depth c.args.type_index c.schema.result.now (Shape.Map c.in-Map-Array.key c.in-Map-Array.part) (view c.args.value.now) (array (items_view items)) _ c.map_of.result
    c.if-depth-eq0.false c.schema.ensures.value c.in-Map-Array.is-0 shown refl (c.map_of.ensures read c.pairs_from.ensures)
