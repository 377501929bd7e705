use Rattle.std.proofs.Common.{rules, ◌≡◌, [], subst}
use Rattle.std.specs.Prelude.{IfSome}
use Rattle.row_model.specs.Table.{RowMap}
use Rattle.column_rows.specs.OneType.{IsColumnIn}
use Rattle.state_moves.proofs.ColumnTables.{column_stays}
use Rattle.state_moves.proofs.before.RowsBeforeTypeColumns.column.Goals as goal

pub returns : goal.returns
returns c =
    let none : c.self.inside.part.now.gone ≡ [] = search rules in
    subst (λ (rows : RowMap). IfSome c.column.result (IsColumnIn rows c.args.field)) c.self.view_is (column_stays c.self.inside.rows.rows c.self.inside.part.now none c.args.field c.column.result c.column.ensures)
