use Rattle.std.proofs.Common.{ℕ, Option, None, sym, subst}
use Rattle.std.specs.FinMap.{get}
use Rattle.row_model.specs.declared.row.Row.{Row}
use Rattle.list_codec.specs.Packing.{HasRoom, elements_of_place}
use Rattle.packed_half.specs.Laying.{IsListPut}
use Rattle.packed_half.proofs.RowPlaces.{is_found, not_found}
use Rattle.packed_half.proofs.lists.put_place.Goals as goal

pub put_list-requires-clause-live : goal.put_list-requires-clause-live
put_list-requires-clause-live g c = is_found (g.N.NewRows.rows c.args.new.now) c.args.half.now.live c.args.place c.contains.result c.requires.live c.contains.ensures.member c.if-contains.true

pub put_elements-requires : goal.put_elements-requires
put_elements-requires g c =
    let none = not_found (g.N.NewRows.rows c.args.new.now) c.args.half.now.live c.args.place c.contains.result c.requires.live c.contains.ensures.member c.if-contains.false in
    subst (λ (row : Option Row). HasRoom c.args.half.now.widths c.args.first.now c.args.second.now c.from.result c.args.start (elements_of_place row)) (sym none)
    (subst (λ (place : ℕ). HasRoom c.args.half.now.widths c.args.first.now c.args.second.now place c.args.start (elements_of_place (get (g.N.NewRows.rows c.args.new.now) c.args.place))) (sym c.from.ensures) c.requires.room)

pub returns : goal.returns
returns g c =
    let none = not_found (g.N.NewRows.rows c.args.new.now) c.args.half.now.live c.args.place c.contains.result c.requires.live c.contains.ensures.member c.if-contains.false in
    subst (λ (row : Option Row). IsListPut c.args.half.now.widths c.args.first.now c.args.second.now c.put_elements.new.first c.put_elements.new.second c.args.place c.args.start c.put_elements.result (elements_of_place row)) none
    (subst (λ (place : ℕ). IsListPut c.args.half.now.widths c.args.first.now c.args.second.now c.put_elements.new.first c.put_elements.new.second place c.args.start c.put_elements.result (elements_of_place None)) c.from.ensures c.put_elements.ensures)
