use Rattle.std.proofs.Common.{subst}
use Rattle.row_model.specs.Table.{RowMap}
use Rattle.column_rows.specs.OneType.{IsRowsBound}
use Rattle.type_state.proofs.Bounds.{bound_of_rows}
use Rattle.type_state.proofs.state.TypeState.bound.Goals as goal

pub returns : goal.returns
returns c = bound_of_rows c.args.self.now.current.rows c.bound.result (subst (λ (rows : RowMap). IsRowsBound rows c.bound.result) c.current.ensures c.bound.ensures)
