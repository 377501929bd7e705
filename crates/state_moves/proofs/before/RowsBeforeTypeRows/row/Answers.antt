use Rattle.std.proofs.Common.{◌≡◌, ◌<◌, List, Option, Some, length, sym, subst}
use Rattle.std.specs.Prelude.{IfOk, IsSome}
use Rattle.std.specs.FinMap.{get}
use Rattle.row_model.specs.declared.row.Row.{Row}
use Rattle.row_model.specs.Table.{RowMap}
use Rattle.state_moves.proofs.PastRows.{left_given, live_kept}
use Rattle.state_moves.proofs.before.RowsBeforeTypeRows.row.Goals as goal

pub row-requires : goal.row-requires
row-requires c = subst (λ (rows : List Row). c.in-Some.place < length rows) (sym c.rows.ensures) c.in-Some.ensures.inside

pub row-requires-in-None : goal.row-requires-in-None
row-requires-in-None c = (live_kept c.self.inside.rows.rows c.self.inside.part.now c.args.ordinal c.in-None.ensures (subst (λ (rows : RowMap). IsSome (get rows c.args.ordinal)) (sym c.self.view_is) c.requires)).0

pub returns-in-Some : goal.returns-in-Some
returns-in-Some c =
    subst (λ (rows : RowMap). IfOk c.row.result (λ row. get rows c.args.ordinal ≡ Some row)) c.self.view_is
    (left_given (λ row. row) c.self.inside.rows.rows c.self.inside.part.now c.args.ordinal c.in-Some.place c.rows.result.now c.row.result c.in-Some.ensures c.rows.ensures c.row.ensures)

pub returns-in-None : goal.returns-in-None
returns-in-None c =
    subst (λ (rows : RowMap). IfOk c.row-in-None.result (λ row. get rows c.args.ordinal ≡ Some row)) c.self.view_is
    (subst (λ (found : Option Row). IfOk c.row-in-None.result (λ row. found ≡ Some row)) (sym (live_kept c.self.inside.rows.rows c.self.inside.part.now c.args.ordinal c.in-None.ensures (subst (λ (rows : RowMap). IsSome (get rows c.args.ordinal)) (sym c.self.view_is) c.requires)).1) c.row-in-None.ensures)
