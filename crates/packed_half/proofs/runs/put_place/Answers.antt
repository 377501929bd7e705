use Rattle.std.proofs.Common.{ℕ, List, Option, None, sym, subst}
use Rattle.std.specs.FinMap.{get}
use Rattle.row_model.specs.declared.row.Row.{Row}
use Rattle.packed_half.specs.Laying.{HasRunRoom, IsRunPut}
use Rattle.packed_half.proofs.RowPlaces.{is_found, not_found}
use Rattle.packed_half.proofs.runs.put_place.Goals as goal

pub put_run-requires-clause-live : goal.put_run-requires-clause-live
put_run-requires-clause-live g c = is_found (g.N.NewRows.rows c.args.new.now) c.args.half.now.live c.args.place c.contains.result c.requires.live c.contains.ensures.member c.if-contains.true

pub put_run-requires-clause-room : goal.put_run-requires-clause-room
put_run-requires-clause-room g c =
    subst (λ (widths : List ℕ). HasRunRoom widths c.args.first.now c.args.second.now c.args.place c.args.start (get (g.N.NewRows.rows c.args.new.now) c.args.place)) (sym c.as_slice-widths.ensures) c.requires.room

pub returns : goal.returns
returns g c =
    let none = not_found (g.N.NewRows.rows c.args.new.now) c.args.half.now.live c.args.place c.contains.result c.requires.live c.contains.ensures.member c.if-contains.false in
    subst (λ (row : Option Row). IsRunPut c.args.half.now.widths c.args.first.now c.args.second.now c.put_run-2.new.first c.put_run-2.new.second c.args.place c.args.start c.put_run-2.result row) none
    (subst (λ (widths : List ℕ). IsRunPut widths c.args.first.now c.args.second.now c.put_run-2.new.first c.put_run-2.new.second c.args.place c.args.start c.put_run-2.result None) c.as_slice-widths.ensures
    (subst (λ (place : ℕ). IsRunPut c.as_slice-widths.result.now c.args.first.now c.args.second.now c.put_run-2.new.first c.put_run-2.new.second place c.args.start c.put_run-2.result None) c.from.ensures c.put_run-2.ensures))
