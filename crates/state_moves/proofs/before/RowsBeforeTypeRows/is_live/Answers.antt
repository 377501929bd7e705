use Rattle.std.proofs.Common.{true, not, refl, subst}
use Rattle.std.specs.Prelude.{◌↔◌, IsSome, IsTrue}
use Rattle.std.specs.FinMap.{get}
use Rattle.row_model.specs.Table.{RowMap}
use Rattle.state_moves.proofs.PastRows.{left_at_live, not_new_live, new_not_live}
use Rattle.state_moves.proofs.before.RowsBeforeTypeRows.is_live.Goals as goal

pub returns-in-Some : goal.returns-in-Some
returns-in-Some c =
    subst (λ (rows : RowMap). IsTrue true ↔ IsSome (get rows c.args.ordinal)) c.self.view_is (λ t. left_at_live c.self.inside.rows.rows c.self.inside.part.now c.args.ordinal c.in-Some.field-0 c.in-Some.ensures, λ live. refl)

pub returns-then-not-is_new : goal.returns-then-not-is_new
returns-then-not-is_new c =
    subst (λ (rows : RowMap). IsTrue c.is_live.result ↔ IsSome (get rows c.args.ordinal)) c.self.view_is
    (not_new_live c.self.inside.rows.rows c.self.inside.part.now c.args.ordinal c.is_new.result c.is_live.result c.in-None.ensures c.is_new.ensures c.if-not-is_new.true c.is_live.ensures)

pub returns-else-not-is_new : goal.returns-else-not-is_new
returns-else-not-is_new c =
    subst (λ (rows : RowMap). IsTrue (not c.is_new.result) ↔ IsSome (get rows c.args.ordinal)) c.self.view_is
    (new_not_live c.self.inside.rows.rows c.self.inside.part.now c.args.ordinal c.is_new.result c.in-None.ensures c.is_new.ensures c.if-not-is_new.false)
