use Rattle.std.proofs.Common.{false, true, refl, sym, subst}
use Rattle.std.specs.Prelude.{◌↔◌, IsSome, IsTrue}
use Rattle.std.proofs.lemmas.Bool.{false≢true}
use Rattle.row_model.specs.Table.{IsLive}
use Rattle.hol_history.proofs.KeptRows.{absent_row, left_row, same_row}
use Rattle.hol_history.proofs.old_state.ThenRows.is_live.Goals as goal

pub returns-in-Left : goal.returns-in-Left
returns-in-Left g c =
    let there = left_row (g.R.Rows.schemas c.self.inside.current.now) (g.R.Rows.table c.self.inside.current.now) c.self.inside.history.now.steps c.self.inside.place c.args.type_index c.args.ordinal c.self.invariant.within c.self.invariant.stands c.in-Left.field-0 c.in-Left.ensures in
    subst (λ state. IsTrue true ↔ IsLive state.table c.args.type_index c.args.ordinal) c.self.view_is (λ found. subst IsSome (sym there) refl, λ live. refl)

pub returns-in-Absent : goal.returns-in-Absent
returns-in-Absent g c =
    let none = absent_row (g.R.Rows.schemas c.self.inside.current.now) (g.R.Rows.table c.self.inside.current.now) c.self.inside.history.now.steps c.self.inside.place c.args.type_index c.args.ordinal c.self.invariant.within c.self.invariant.stands c.in-Absent.ensures in
    subst (λ state. IsTrue false ↔ IsLive state.table c.args.type_index c.args.ordinal) c.self.view_is (λ never. absurd (false≢true never), λ live. absurd (false≢true (subst IsSome none live)))

pub returns-in-Untouched : goal.returns-in-Untouched
returns-in-Untouched g c =
    let same = same_row (g.R.Rows.schemas c.self.inside.current.now) (g.R.Rows.table c.self.inside.current.now) c.self.inside.history.now.steps c.self.inside.place c.args.type_index c.args.ordinal c.self.invariant.within c.self.invariant.stands c.in-Untouched.ensures in
    subst (λ state. IsTrue c.is_live.result ↔ IsLive state.table c.args.type_index c.args.ordinal) c.self.view_is (subst (λ found. IsTrue c.is_live.result ↔ IsSome found) (sym same) c.is_live.ensures)
