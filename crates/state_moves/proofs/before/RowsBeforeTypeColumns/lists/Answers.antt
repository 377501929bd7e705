use Rattle.std.proofs.Common.{rules, ◌≡◌, [], subst}
use Rattle.std.specs.Prelude.{IfSome}
use Rattle.row_model.specs.Table.{RowMap}
use Rattle.column_rows.specs.OneType.{AreListsIn}
use Rattle.state_moves.proofs.ColumnTables.{lists_stay}
use Rattle.state_moves.proofs.before.RowsBeforeTypeColumns.lists.Goals as goal

pub returns : goal.returns
returns c =
    let none : c.self.inside.part.now.gone ≡ [] = search rules in
    subst (λ (rows : RowMap). IfSome c.lists.result (AreListsIn rows)) c.self.view_is (lists_stay c.self.inside.rows.rows c.self.inside.part.now none c.lists.result c.lists.ensures)
