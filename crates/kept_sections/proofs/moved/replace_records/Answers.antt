use Rattle.row_packing.specs.Chosen.{shape_at}
use Rattle.kept_sections.proofs.MovedPlaces.{replaced}
use Rattle.kept_sections.proofs.MovedRows.{on_ok}
use Rattle.kept_sections.proofs.moved.replace_records.Goals as goal

pub returns : goal.returns
returns g c =
    let shape = shape_at (g.B.Rows.schemas c.args.new.now) c.args.type_index in
    on_ok c.put_come.result
    (λ put.
    replaced shape c.args.widths.now (g.A.Rows.table c.args.old.now) (g.B.Rows.table c.args.new.now) c.args.type_index c.args.first.now c.clear_gone.new.first c.put_come.new.first c.ordinals-before.result.now c.ordinals.result.now put.0
    c.ordinals-before.ensures c.ordinals.ensures put.1 c.clear_gone.ensures put.2)
    c.put_come.ensures
