use Rattle.std.proofs.Common.{◌≡◌, Some, sym, subst, ap, ◌∙◌}
use Rattle.std.specs.Prelude.{IfOk, IsSome}
use Rattle.std.proofs.lemmas.Bool.{false≢true}
use Rattle.row_model.specs.Table.{IsLive, row_at}
use Rattle.seen_rows.proofs.ViewPlaces.{ok_weaker}
use Rattle.hol_history.specs.Then.{table_at}
use Rattle.hol_history.proofs.KeptRows.{absent_row, left_row, same_row}
use Rattle.hol_history.proofs.old_state.ThenRows.row.Goals as goal

pub returns-in-Left : goal.returns-in-Left
returns-in-Left g c =
    let there = left_row (g.R.Rows.schemas c.self.inside.current.now) (g.R.Rows.table c.self.inside.current.now) c.self.inside.history.now.steps c.self.inside.place c.args.type_index c.args.ordinal c.self.invariant.within c.self.invariant.stands c.in-Left.row c.in-Left.ensures in
    subst (λ state. IfOk c.copy.result (λ row. row_at state.table c.args.type_index c.args.ordinal ≡ Some row)) c.self.view_is
    (ok_weaker (λ copy. copy ≡ c.in-Left.row.now) (λ row. row_at (table_at (g.R.Rows.table c.self.inside.current.now) c.self.inside.history.now.steps c.self.inside.place) c.args.type_index c.args.ordinal ≡ Some row)
    c.copy.result c.copy.ensures (λ row same. there ∙ ap Some (sym same)))

pub unreachable-requires : goal.unreachable-requires
unreachable-requires g c =
    let none = absent_row (g.R.Rows.schemas c.self.inside.current.now) (g.R.Rows.table c.self.inside.current.now) c.self.inside.history.now.steps c.self.inside.place c.args.type_index c.args.ordinal c.self.invariant.within c.self.invariant.stands c.in-Absent.ensures in
    false≢true (subst IsSome none (subst (λ state. IsLive state.table c.args.type_index c.args.ordinal) (sym c.self.view_is) c.requires))

pub row-requires : goal.row-requires
row-requires g c =
    let same = same_row (g.R.Rows.schemas c.self.inside.current.now) (g.R.Rows.table c.self.inside.current.now) c.self.inside.history.now.steps c.self.inside.place c.args.type_index c.args.ordinal c.self.invariant.within c.self.invariant.stands c.in-Untouched.ensures in
    subst IsSome same (subst (λ state. IsLive state.table c.args.type_index c.args.ordinal) (sym c.self.view_is) c.requires)

pub returns-in-Untouched : goal.returns-in-Untouched
returns-in-Untouched g c =
    let same = same_row (g.R.Rows.schemas c.self.inside.current.now) (g.R.Rows.table c.self.inside.current.now) c.self.inside.history.now.steps c.self.inside.place c.args.type_index c.args.ordinal c.self.invariant.within c.self.invariant.stands c.in-Untouched.ensures in
    subst (λ state. IfOk c.row.result (λ row. row_at state.table c.args.type_index c.args.ordinal ≡ Some row)) c.self.view_is (subst (λ found. IfOk c.row.result (λ row. found ≡ Some row)) (sym same) c.row.ensures)
