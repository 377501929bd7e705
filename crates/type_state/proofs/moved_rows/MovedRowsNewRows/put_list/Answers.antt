use Rattle.std.proofs.Common.{◌≡◌, ℕ, Some, Option, ap, sym, subst, ◌∙◌}
use Rattle.std.specs.Prelude.{IsSome}
use Rattle.std.specs.FinMap.{get}
use Rattle.row_model.specs.declared.row.Row.{Row}
use Rattle.row_model.specs.Table.{RowMap}
use Rattle.type_rows.specs.Patches.{places_in}
use Rattle.type_rows.specs.Rows.{row_in}
use Rattle.type_state.specs.KeptRecords.{TypedRows, kept_rows}
use Rattle.type_state.proofs.Comings.{stays_live}
use Rattle.type_state.proofs.DifferingRows.{with_added}
use Rattle.list_codec.specs.Packing.{HasRoom, elements_of_place}
use Rattle.packed_half.specs.Laying.{IsListPut}
use Rattle.type_state.proofs.moved_rows.MovedRowsNewRows.put_list.Goals as goal

pub copy_list-requires-clause-room : goal.copy_list-requires-clause-room
copy_list-requires-clause-room c =
    let inside = c.self.inside in
    let ds = inside.differences in
    let a = c.self.invariant.0 in
    let row = row_in ds.schema.now.shape (places_in ds.patch.now) c.in-Some.there in
    let is : get c.args.self.now.rows c.args.ordinal ≡ Some row = subst (λ (t : TypedRows). get t.rows c.args.ordinal ≡ Some row) c.self.view_is (with_added inside.rows.now.rows ds c.args.ordinal _ a c.in-Some.ensures.found) in
    subst (λ (place : ℕ). HasRoom c.args.widths.now c.args.first.now c.args.second.now place c.args.start (elements_of_place (Some row))) (sym c.from-place.ensures)
    (subst (λ (slot : Option Row). HasRoom c.args.widths.now c.args.first.now c.args.second.now c.args.ordinal c.args.start (elements_of_place slot)) is c.requires.room)

pub returns-in-Some : goal.returns-in-Some
returns-in-Some c =
    let inside = c.self.inside in
    let ds = inside.differences in
    let a = c.self.invariant.0 in
    let row = row_in ds.schema.now.shape (places_in ds.patch.now) c.in-Some.there in
    let is : get c.args.self.now.rows c.args.ordinal ≡ Some row = subst (λ (t : TypedRows). get t.rows c.args.ordinal ≡ Some row) c.self.view_is (with_added inside.rows.now.rows ds c.args.ordinal _ a c.in-Some.ensures.found) in
    subst (λ (slot : Option Row). IsListPut c.args.widths.now c.args.first.now c.args.second.now c.copy_list.new.first c.copy_list.new.second c.args.ordinal c.args.start c.copy_list.result (elements_of_place slot)) (sym is)
    (subst (λ (place : ℕ). IsListPut c.args.widths.now c.args.first.now c.args.second.now c.copy_list.new.first c.copy_list.new.second place c.args.start c.copy_list.result (elements_of_place (Some row))) c.from-place.ensures c.copy_list.ensures)

pub copy_list-requires-in-None-clause-live : goal.copy_list-requires-in-None-clause-live
copy_list-requires-in-None-clause-live c =
    let inside = c.self.inside in
    let ds = inside.differences in
    let a = c.self.invariant.0 in
    let live = subst (λ (t : TypedRows). IsSome (get t.rows c.args.ordinal)) (sym c.self.view_is) c.requires.live in
    let stays = subst (λ (t : TypedRows). get t.rows c.args.ordinal ≡ get inside.rows.now.rows c.args.ordinal) c.self.view_is (stays_live inside.rows.now.rows ds c.args.ordinal a c.in-None.ensures live) in
    let is : get c.args.self.now.rows c.args.ordinal ≡ get (kept_rows inside.records) c.args.ordinal = stays ∙ ap (λ (rows : RowMap). get rows c.args.ordinal) (sym c.self.invariant.3) in
    subst IsSome is c.requires.live

pub copy_list-requires-in-None-clause-room : goal.copy_list-requires-in-None-clause-room
copy_list-requires-in-None-clause-room c =
    let inside = c.self.inside in
    let ds = inside.differences in
    let a = c.self.invariant.0 in
    let live = subst (λ (t : TypedRows). IsSome (get t.rows c.args.ordinal)) (sym c.self.view_is) c.requires.live in
    let stays = subst (λ (t : TypedRows). get t.rows c.args.ordinal ≡ get inside.rows.now.rows c.args.ordinal) c.self.view_is (stays_live inside.rows.now.rows ds c.args.ordinal a c.in-None.ensures live) in
    let is : get c.args.self.now.rows c.args.ordinal ≡ get (kept_rows inside.records) c.args.ordinal = stays ∙ ap (λ (rows : RowMap). get rows c.args.ordinal) (sym c.self.invariant.3) in
    subst (λ (slot : Option Row). HasRoom c.args.widths.now c.args.first.now c.args.second.now c.args.ordinal c.args.start (elements_of_place slot)) is c.requires.room

pub returns-in-None : goal.returns-in-None
returns-in-None c =
    let inside = c.self.inside in
    let ds = inside.differences in
    let a = c.self.invariant.0 in
    let live = subst (λ (t : TypedRows). IsSome (get t.rows c.args.ordinal)) (sym c.self.view_is) c.requires.live in
    let stays = subst (λ (t : TypedRows). get t.rows c.args.ordinal ≡ get inside.rows.now.rows c.args.ordinal) c.self.view_is (stays_live inside.rows.now.rows ds c.args.ordinal a c.in-None.ensures live) in
    let is : get c.args.self.now.rows c.args.ordinal ≡ get (kept_rows inside.records) c.args.ordinal = stays ∙ ap (λ (rows : RowMap). get rows c.args.ordinal) (sym c.self.invariant.3) in
    subst (λ (slot : Option Row). IsListPut c.args.widths.now c.args.first.now c.args.second.now c.copy_list-in-None.new.first c.copy_list-in-None.new.second c.args.ordinal c.args.start c.copy_list-in-None.result (elements_of_place slot)) (sym is)
    c.copy_list-in-None.ensures
