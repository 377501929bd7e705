use Rattle.std.proofs.Common.{rules, ◌≡◌, [], subst}
use Rattle.std.specs.Prelude.{IfSome}
use Rattle.row_model.specs.Table.{RowMap}
use Rattle.column_rows.specs.OneType.{AreRunsIn}
use Rattle.state_moves.proofs.ColumnTables.{runs_stay}
use Rattle.state_moves.proofs.before.RowsBeforeTypeColumns.runs.Goals as goal

pub returns : goal.returns
returns c =
    let none : c.self.inside.part.now.gone ≡ [] = search rules in
    subst (λ (rows : RowMap). IfSome c.runs.result (AreRunsIn rows)) c.self.view_is (runs_stay c.self.inside.rows.rows c.self.inside.part.now none c.runs.result c.runs.ensures)
