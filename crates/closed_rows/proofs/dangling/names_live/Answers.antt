use Rattle.row_model.specs.Row.{references_of_row}
use Rattle.closed_rows.proofs.Danglings.{record_told, list_told, map_told}
use Rattle.closed_rows.proofs.dangling.names_live.Goals as goal

pub returns-in-Object-Object : goal.returns-in-Object-Object
returns-in-Object-Object g c =
    record_told (g.R.Rows.schemas c.args.rows.now) (g.R.Rows.table c.args.rows.now) c.args.shape.now c.args.row.now c.values_live.result c.in-Object-Object.field-0-0 c.in-Object-Object.fields c.as_slice.result.now c.in-Object-Object.values c.as_slice-in-Object-Object.result.now
    c.in-Object-Object.is-0 c.in-Object-Object.is-1 c.as_slice.ensures c.as_slice-in-Object-Object.ensures c.values_live.ensures

pub returns-in-List-List : goal.returns-in-List-List
returns-in-List-List g c =
    list_told (g.R.Rows.schemas c.args.rows.now) (g.R.Rows.table c.args.rows.now) c.args.shape.now c.args.row.now c.ordinals_live.result c.in-List-List.element c.in-List-List.ordinals c.as_slice-in-List-List.result.now
    (λ i. references_of_row (c.in-List-List.is-0 i) (c.in-List-List.is-1 i)) c.as_slice-in-List-List.ensures c.ordinals_live.ensures

pub returns-in-Set-Set : goal.returns-in-Set-Set
returns-in-Set-Set g c =
    list_told (g.R.Rows.schemas c.args.rows.now) (g.R.Rows.table c.args.rows.now) c.args.shape.now c.args.row.now c.ordinals_live-in-Set-Set.result c.in-Set-Set.element c.in-Set-Set.ordinals c.as_slice-in-Set-Set.result.now
    (λ i. references_of_row (c.in-Set-Set.is-0 i) (c.in-Set-Set.is-1 i)) c.as_slice-in-Set-Set.ensures c.ordinals_live-in-Set-Set.ensures

pub returns-in-Map-Map : goal.returns-in-Map-Map
returns-in-Map-Map g c =
    map_told (g.R.Rows.schemas c.args.rows.now) (g.R.Rows.table c.args.rows.now) c.args.shape.now c.args.row.now c.pairs_live.result c.in-Map-Map.key c.in-Map-Map.value c.in-Map-Map.pairs c.as_slice-in-Map-Map.result.now c.in-Map-Map.is-0 c.in-Map-Map.is-1 c.as_slice-in-Map-Map.ensures c.pairs_live.ensures
