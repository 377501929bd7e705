use Rattle.std.proofs.Common.{◌≡◌, ℕ, Some, Option, refl, ap, sym, subst, ◌∙◌, arith}
use Rattle.std.specs.Prelude.{IsSome, OnOk}
use Rattle.std.specs.FinMap.{get}
use Rattle.schema_model.specs.declared.schema.Shape.{Shape}
use Rattle.row_model.specs.declared.row.Row.{Row}
use Rattle.row_model.specs.Table.{RowMap}
use Rattle.type_rows.specs.Patches.{places_in}
use Rattle.type_rows.specs.Rows.{row_in}
use Rattle.type_state.specs.KeptRecords.{TypedRows, kept_rows}
use Rattle.type_state.proofs.Comings.{carried, stays_live}
use Rattle.type_state.proofs.DifferingRows.{with_added}
use Rattle.object_codec.proofs.FieldWidths.{record_fits}
use Rattle.object_codec.specs.Packing.{HasRoom, IsRowPut}
use Rattle.type_state.proofs.moved_rows.MovedRowsNewRows.put_record.Goals as goal

pub overflow_cast-size : goal.overflow_cast-size
overflow_cast-size c = omega (arith, c.total_width-size.ensures.total, record_fits _ _ _ _ _ c.requires.room.holds)

pub copy_record-requires-clause-room : goal.copy_record-requires-clause-room
copy_record-requires-clause-room c =
    let inside = c.self.inside in
    let ds = inside.differences in
    let a = c.self.invariant.0 in
    let row = row_in ds.schema.now.shape (places_in ds.patch.now) c.in-Some.there in
    let is : get c.args.self.now.rows c.args.ordinal ≡ Some row = subst (λ (t : TypedRows). get t.rows c.args.ordinal ≡ Some row) c.self.view_is (with_added inside.rows.now.rows ds c.args.ordinal _ a c.in-Some.ensures.found) in
    let same : ds.schema.now.shape ≡ c.args.schema.now.shape = c.self.invariant.1 ∙ subst (λ (t : TypedRows). inside.records.shape.now ≡ t.shape) c.self.view_is refl ∙ c.requires.suits in
    carried (λ (shape : Shape) (place : ℕ) (slot : Option Row). HasRoom shape c.args.widths.now c.args.first.now c.args.areas.now place slot) c.args.schema.now.shape ds.schema.now.shape c.args.ordinal c.from-place.result (get c.args.self.now.rows c.args.ordinal) (Some row)
    (sym same) (sym c.from-place.ensures) is c.requires.room

pub returns-in-Some : goal.returns-in-Some
returns-in-Some c =
    let inside = c.self.inside in
    let ds = inside.differences in
    let a = c.self.invariant.0 in
    let row = row_in ds.schema.now.shape (places_in ds.patch.now) c.in-Some.there in
    let is : get c.args.self.now.rows c.args.ordinal ≡ Some row = subst (λ (t : TypedRows). get t.rows c.args.ordinal ≡ Some row) c.self.view_is (with_added inside.rows.now.rows ds c.args.ordinal _ a c.in-Some.ensures.found) in
    let same : ds.schema.now.shape ≡ c.args.schema.now.shape = c.self.invariant.1 ∙ subst (λ (t : TypedRows). inside.records.shape.now ≡ t.shape) c.self.view_is refl ∙ c.requires.suits in
    carried (λ (shape : Shape) (place : ℕ) (slot : Option Row). OnOk c.copy_record.result (IsRowPut shape c.args.widths.now c.args.first.now c.args.areas.now c.copy_record.new.first c.copy_record.new.areas place slot)) ds.schema.now.shape c.args.schema.now.shape
    c.from-place.result c.args.ordinal (Some row) (get c.args.self.now.rows c.args.ordinal) same c.from-place.ensures (sym is) c.copy_record.ensures

pub copy_record-requires-in-None-clause-live : goal.copy_record-requires-in-None-clause-live
copy_record-requires-in-None-clause-live c =
    let inside = c.self.inside in
    let ds = inside.differences in
    let a = c.self.invariant.0 in
    let live = subst (λ (t : TypedRows). IsSome (get t.rows c.args.ordinal)) (sym c.self.view_is) c.requires.live in
    let stays = subst (λ (t : TypedRows). get t.rows c.args.ordinal ≡ get inside.rows.now.rows c.args.ordinal) c.self.view_is (stays_live inside.rows.now.rows ds c.args.ordinal a c.in-None.ensures live) in
    let is : get c.args.self.now.rows c.args.ordinal ≡ get (kept_rows inside.records) c.args.ordinal = stays ∙ ap (λ (rows : RowMap). get rows c.args.ordinal) (sym c.self.invariant.3) in
    subst IsSome is c.requires.live

pub copy_record-requires-in-None-clause-room : goal.copy_record-requires-in-None-clause-room
copy_record-requires-in-None-clause-room c =
    let inside = c.self.inside in
    let ds = inside.differences in
    let a = c.self.invariant.0 in
    let live = subst (λ (t : TypedRows). IsSome (get t.rows c.args.ordinal)) (sym c.self.view_is) c.requires.live in
    let stays = subst (λ (t : TypedRows). get t.rows c.args.ordinal ≡ get inside.rows.now.rows c.args.ordinal) c.self.view_is (stays_live inside.rows.now.rows ds c.args.ordinal a c.in-None.ensures live) in
    let is : get c.args.self.now.rows c.args.ordinal ≡ get (kept_rows inside.records) c.args.ordinal = stays ∙ ap (λ (rows : RowMap). get rows c.args.ordinal) (sym c.self.invariant.3) in
    subst (λ (slot : Option Row). HasRoom c.args.schema.now.shape c.args.widths.now c.args.first.now c.args.areas.now c.args.ordinal slot) is c.requires.room

pub returns-in-None : goal.returns-in-None
returns-in-None c =
    let inside = c.self.inside in
    let ds = inside.differences in
    let a = c.self.invariant.0 in
    let live = subst (λ (t : TypedRows). IsSome (get t.rows c.args.ordinal)) (sym c.self.view_is) c.requires.live in
    let stays = subst (λ (t : TypedRows). get t.rows c.args.ordinal ≡ get inside.rows.now.rows c.args.ordinal) c.self.view_is (stays_live inside.rows.now.rows ds c.args.ordinal a c.in-None.ensures live) in
    let is : get c.args.self.now.rows c.args.ordinal ≡ get (kept_rows inside.records) c.args.ordinal = stays ∙ ap (λ (rows : RowMap). get rows c.args.ordinal) (sym c.self.invariant.3) in
    subst (λ (slot : Option Row). OnOk c.copy_record-in-None.result (IsRowPut c.args.schema.now.shape c.args.widths.now c.args.first.now c.args.areas.now c.copy_record-in-None.new.first c.copy_record-in-None.new.areas c.args.ordinal slot)) (sym is)
    c.copy_record-in-None.ensures
