use Rattle.std.proofs.Common.{inl, inr, sym, subst, arith}
use Rattle.row_model.specs.Table.{IsLive}
use Rattle.hol_history.proofs.OldTables.{live_then}
use Rattle.hol_history.proofs.old_state.Then.first_bound.Goals as goal

pub returns : goal.returns
returns g c = λ ordinal live.
    let inside = c.self.inside in
    elim (live_then (g.R.Rows.schemas inside.current.now) (g.R.Rows.table inside.current.now) inside.history.now.steps inside.place c.args.type_index ordinal c.self.invariant.within c.self.invariant.stands
    (subst (λ state. IsLive state.table c.args.type_index ordinal) (sym c.self.view_is) live)) [
      | inl still ↦ let below = c.bound.ensures.above ordinal still in omega (arith, below, c.max.ensures)
      | inr (place, touched, small) ↦ let le = c.greatest.ensures place ordinal (omega arith) touched in omega (arith, le, small, c.saturating_add-touched.ensures, c.max.ensures)
    ]
