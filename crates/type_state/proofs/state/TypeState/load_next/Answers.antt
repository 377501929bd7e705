use Rattle.std.proofs.Common.{inl, List, ℕ, length, refl, ap, subst, sym, ◌∙◌}
use Rattle.row_model.specs.Table.{RowMap}
use Rattle.type_rows.specs.Loads.{Loads}
use Rattle.type_rows.specs.WellFormed.{IsReadable}
use Rattle.type_state.specs.Kept.{IsHalf, half_in, half_rows}
use Rattle.type_state.specs.State.{State}
use Rattle.type_state.proofs.HalfRows.{laid_half, laid_rows}
use Rattle.type_state.proofs.LaidOut.{laid_out}
use Rattle.type_state.proofs.state.TypeState.load_next.Goals as goal

pub invariant_of-self-2 : goal.invariant_of-self-2
invariant_of-self-2 c =
    let rows = c.in_ok-half.ensures.tells.0 in
    record {
      current_half = subst (λ (words : List ℕ). IsHalf c.self.inside.schema.shape c.self.inside.now words) (sym c.in_ok-lay_section_next.ensures.current) c.self.invariant.current_half;
      other_half = laid_half c.self.inside.schema.shape c.in_ok-half.half c.lay_section_next.new.twin.other rows c.in_ok-half.ensures.tells.2 (c.in_ok-lay_section_next.ensures.laid rows c.in_ok-half.ensures.tells.1);
      current_long = ap (λ (words : List ℕ). length words) c.in_ok-lay_section_next.ensures.current ∙ c.self.invariant.current_long;
      other_long = (c.in_ok-lay_section_next.ensures.laid rows c.in_ok-half.ensures.tells.1).long;
    }

pub returns-clause-exact : goal.returns-clause-exact
returns-clause-exact c =
    (λ e. subst (λ (s : State). (rows : RowMap) × Loads s.schema.shape c.args.section.now rows) c.self.view_is (c.in_ok-half.ensures.tells.0, c.in_ok-half.ensures.tells.1), λ some. inl refl)

pub returns-clause-tells : goal.returns-clause-tells
returns-clause-tells c =
    let rows = c.in_ok-half.ensures.tells.0 in
    let laid = c.in_ok-lay_section_next.ensures.laid rows c.in_ok-half.ensures.tells.1 in
    let words = half_rows c.self.inside.schema.shape c.in_ok-half.half c.lay_section_next.new.twin.other in
    subst (λ (s : State). Loads s.schema.shape c.args.section.now words) c.self.view_is
    (subst (Loads c.self.inside.schema.shape c.args.section.now) (sym (laid_rows c.self.inside.schema.shape c.in_ok-half.half c.lay_section_next.new.twin.other rows laid)) c.in_ok-half.ensures.tells.1)

pub returns-clause-laid : goal.returns-clause-laid
returns-clause-laid c =
    let readable : IsReadable c.self.inside.schema.shape c.args.section.now = subst (λ (s : State). IsReadable s.schema.shape c.args.section.now) (sym c.self.view_is) c.requires in
    laid_out c.self.inside.schema c.args.section.now (half_in c.self.inside.schema.shape c.in_ok-half.half c.lay_section_next.new.twin.other) readable c.in_ok-half.ensures.tells.3
