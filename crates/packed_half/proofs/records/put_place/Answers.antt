use Rattle.std.proofs.Common.{List, ℕ, Option, None, sym, subst}
use Rattle.std.specs.Prelude.{OnOk}
use Rattle.std.specs.FinMap.{get}
use Rattle.row_model.specs.declared.row.Row.{Row}
use Rattle.object_codec.specs.Packing.{HasRoom, IsRowPut}
use Rattle.packed_half.proofs.RowPlaces.{is_found, not_found}
use Rattle.packed_half.proofs.records.put_place.Goals as goal

pub put_record-requires-clause-live : goal.put_record-requires-clause-live
put_record-requires-clause-live g c = is_found (g.N.NewRows.rows c.args.new.now) c.args.half.now.live c.args.place c.contains.result c.requires.live c.contains.ensures.member c.if-contains.true

pub put_row-requires : goal.put_row-requires
put_row-requires g c =
    let none = not_found (g.N.NewRows.rows c.args.new.now) c.args.half.now.live c.args.place c.contains.result c.requires.live c.contains.ensures.member c.if-contains.false in
    subst (λ (row : Option Row). HasRoom c.args.schema.now.shape c.as_slice-widths.result.now c.args.first.now c.args.areas.now c.from.result row) (sym none)
    (subst (λ (widths : List ℕ). HasRoom c.args.schema.now.shape widths c.args.first.now c.args.areas.now c.from.result (get (g.N.NewRows.rows c.args.new.now) c.args.place)) (sym c.as_slice-widths.ensures)
    (subst (λ (place : ℕ). HasRoom c.args.schema.now.shape c.args.half.now.widths c.args.first.now c.args.areas.now place (get (g.N.NewRows.rows c.args.new.now) c.args.place)) (sym c.from.ensures) c.requires.room))

pub returns : goal.returns
returns g c =
    let none = not_found (g.N.NewRows.rows c.args.new.now) c.args.half.now.live c.args.place c.contains.result c.requires.live c.contains.ensures.member c.if-contains.false in
    subst (λ (row : Option Row). OnOk c.put_row.result (IsRowPut c.args.schema.now.shape c.args.half.now.widths c.args.first.now c.args.areas.now c.put_row.new.first c.put_row.new.areas c.args.place row)) none
    (subst (λ (widths : List ℕ). OnOk c.put_row.result (IsRowPut c.args.schema.now.shape widths c.args.first.now c.args.areas.now c.put_row.new.first c.put_row.new.areas c.args.place None)) c.as_slice-widths.ensures
    (subst (λ (place : ℕ). OnOk c.put_row.result (IsRowPut c.args.schema.now.shape c.as_slice-widths.result.now c.args.first.now c.args.areas.now c.put_row.new.first c.put_row.new.areas place None)) c.from.ensures c.put_row.ensures))
