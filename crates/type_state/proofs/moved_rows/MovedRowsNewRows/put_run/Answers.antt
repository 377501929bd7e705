use Rattle.std.proofs.Common.{◌≡◌, ℕ, Some, Option, ap, sym, subst, ◌∙◌}
use Rattle.std.specs.Prelude.{IsSome}
use Rattle.std.specs.FinMap.{get}
use Rattle.row_model.specs.declared.row.Row.{Row}
use Rattle.row_model.specs.Table.{RowMap}
use Rattle.type_rows.specs.Patches.{places_in}
use Rattle.type_rows.specs.Rows.{row_in}
use Rattle.packed_half.specs.Laying.{HasRunRoom, IsRunPut}
use Rattle.type_state.specs.KeptRecords.{TypedRows, kept_rows}
use Rattle.type_state.proofs.Comings.{stays_live}
use Rattle.type_state.proofs.DifferingRows.{with_added}
use Rattle.type_state.proofs.moved_rows.MovedRowsNewRows.put_run.Goals as goal

pub put_run-requires : goal.put_run-requires
put_run-requires c =
    let inside = c.self.inside in
    let ds = inside.differences in
    let a = c.self.invariant.0 in
    let there = subst (λ (t : TypedRows). get t.rows c.args.ordinal ≡ Some (row_in ds.schema.now.shape (places_in ds.patch.now) c.in-Some.there)) c.self.view_is (with_added inside.rows.now.rows ds c.args.ordinal _ a c.in-Some.ensures.found) in
    let is : get c.args.self.now.rows c.args.ordinal ≡ Some c.in_ok-row-in-Some.row = there ∙ ap Some (sym c.in_ok-row-in-Some.ensures) in
    subst (λ (place : ℕ). HasRunRoom c.args.widths.now c.args.first.now c.args.second.now place c.args.start (Some c.in_ok-row-in-Some.row)) (sym c.from-place.ensures)
    (subst (λ (slot : Option Row). HasRunRoom c.args.widths.now c.args.first.now c.args.second.now c.args.ordinal c.args.start slot) is c.requires.room)

pub returns-in_ok-row-in-Some : goal.returns-in_ok-row-in-Some
returns-in_ok-row-in-Some c =
    let inside = c.self.inside in
    let ds = inside.differences in
    let a = c.self.invariant.0 in
    let there = subst (λ (t : TypedRows). get t.rows c.args.ordinal ≡ Some (row_in ds.schema.now.shape (places_in ds.patch.now) c.in-Some.there)) c.self.view_is (with_added inside.rows.now.rows ds c.args.ordinal _ a c.in-Some.ensures.found) in
    let is : get c.args.self.now.rows c.args.ordinal ≡ Some c.in_ok-row-in-Some.row = there ∙ ap Some (sym c.in_ok-row-in-Some.ensures) in
    subst (λ (slot : Option Row). IsRunPut c.args.widths.now c.args.first.now c.args.second.now c.put_run.new.first c.put_run.new.second c.args.ordinal c.args.start c.put_run.result slot) (sym is)
    (subst (λ (place : ℕ). IsRunPut c.args.widths.now c.args.first.now c.args.second.now c.put_run.new.first c.put_run.new.second place c.args.start c.put_run.result (Some c.in_ok-row-in-Some.row)) c.from-place.ensures c.put_run.ensures)

pub copy_run-requires-clause-live : goal.copy_run-requires-clause-live
copy_run-requires-clause-live c =
    let inside = c.self.inside in
    let ds = inside.differences in
    let a = c.self.invariant.0 in
    let live = subst (λ (t : TypedRows). IsSome (get t.rows c.args.ordinal)) (sym c.self.view_is) c.requires.live in
    let stays = subst (λ (t : TypedRows). get t.rows c.args.ordinal ≡ get inside.rows.now.rows c.args.ordinal) c.self.view_is (stays_live inside.rows.now.rows ds c.args.ordinal a c.in-None.ensures live) in
    let is : get c.args.self.now.rows c.args.ordinal ≡ get (kept_rows inside.records) c.args.ordinal = stays ∙ ap (λ (rows : RowMap). get rows c.args.ordinal) (sym c.self.invariant.3) in
    subst IsSome is c.requires.live

pub copy_run-requires-clause-room : goal.copy_run-requires-clause-room
copy_run-requires-clause-room c =
    let inside = c.self.inside in
    let ds = inside.differences in
    let a = c.self.invariant.0 in
    let live = subst (λ (t : TypedRows). IsSome (get t.rows c.args.ordinal)) (sym c.self.view_is) c.requires.live in
    let stays = subst (λ (t : TypedRows). get t.rows c.args.ordinal ≡ get inside.rows.now.rows c.args.ordinal) c.self.view_is (stays_live inside.rows.now.rows ds c.args.ordinal a c.in-None.ensures live) in
    let is : get c.args.self.now.rows c.args.ordinal ≡ get (kept_rows inside.records) c.args.ordinal = stays ∙ ap (λ (rows : RowMap). get rows c.args.ordinal) (sym c.self.invariant.3) in
    subst (λ (place : ℕ). HasRunRoom c.args.widths.now c.args.first.now c.args.second.now place c.args.start (get (kept_rows inside.records) c.args.ordinal)) (sym c.from-place.ensures)
    (subst (λ (slot : Option Row). HasRunRoom c.args.widths.now c.args.first.now c.args.second.now c.args.ordinal c.args.start slot) is c.requires.room)

pub returns-in-None : goal.returns-in-None
returns-in-None c =
    let inside = c.self.inside in
    let ds = inside.differences in
    let a = c.self.invariant.0 in
    let live = subst (λ (t : TypedRows). IsSome (get t.rows c.args.ordinal)) (sym c.self.view_is) c.requires.live in
    let stays = subst (λ (t : TypedRows). get t.rows c.args.ordinal ≡ get inside.rows.now.rows c.args.ordinal) c.self.view_is (stays_live inside.rows.now.rows ds c.args.ordinal a c.in-None.ensures live) in
    let is : get c.args.self.now.rows c.args.ordinal ≡ get (kept_rows inside.records) c.args.ordinal = stays ∙ ap (λ (rows : RowMap). get rows c.args.ordinal) (sym c.self.invariant.3) in
    subst (λ (slot : Option Row). IsRunPut c.args.widths.now c.args.first.now c.args.second.now c.copy_run.new.first c.copy_run.new.second c.args.ordinal c.args.start c.copy_run.result slot) (sym is)
    (subst (λ (place : ℕ). IsRunPut c.args.widths.now c.args.first.now c.args.second.now c.copy_run.new.first c.copy_run.new.second place c.args.start c.copy_run.result (get (kept_rows inside.records) c.args.ordinal)) c.from-place.ensures c.copy_run.ensures)
