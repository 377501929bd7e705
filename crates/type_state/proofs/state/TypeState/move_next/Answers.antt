use Rattle.std.proofs.Common.{rules, ◌≡◌, inl, List, ℕ, length, refl, ap, subst, sym, ◌∙◌}
use Rattle.packed_half.specs.Laying.{CanLay}
use Rattle.type_rows.specs.Patches.{IsMovedBy, IsReadablePatch, RefusesMove, TellsMove}
use Rattle.type_state.specs.Differences.{rows_with}
use Rattle.type_state.specs.Kept.{IsHalf, half_in, half_rows}
use Rattle.type_state.specs.Moved.{IsMoveOf}
use Rattle.type_state.specs.State.{State}
use Rattle.type_state.proofs.HalfRows.{laid_half, laid_rows}
use Rattle.type_state.proofs.LaidOut.{laid_by}
use Rattle.type_state.proofs.MovesExact.{moves_exact}
use Rattle.type_state.proofs.state.TypeState.move_next.Goals as goal

pub returns-in_err-next-clause-exact : goal.returns-in_err-next-clause-exact
returns-in_err-next-clause-exact c =
    let refuses : RefusesMove c.args.self.now.schema.shape c.args.patch.now c.args.self.now.current.rows c.in_err-next.field-0.0 =
    subst (λ (s : State). RefusesMove s.schema.shape c.args.patch.now s.current.rows c.in_err-next.field-0.0) c.self.view_is
    (subst (λ (words : List ℕ). RefusesMove c.self.inside.schema.shape c.args.patch.now (half_rows c.self.inside.schema.shape c.self.inside.now words) c.in_err-next.field-0.0) c.current.ensures c.in_err-next.ensures.tells) in
    let tells : TellsMove c.args.self.now.schema.shape c.args.patch.now c.args.self.now.current.rows c.args.self.now.other.rows c.from_residual.result = search rules in
    moves_exact c.args.self.now.schema.shape c.args.patch.now c.args.self.now.current.rows c.args.self.now.other.rows c.from_residual.result tells

pub returns-in_err-next-clause-tells : goal.returns-in_err-next-clause-tells
returns-in_err-next-clause-tells c =
    let refuses : RefusesMove c.args.self.now.schema.shape c.args.patch.now c.args.self.now.current.rows c.in_err-next.field-0.0 =
    subst (λ (s : State). RefusesMove s.schema.shape c.args.patch.now s.current.rows c.in_err-next.field-0.0) c.self.view_is
    (subst (λ (words : List ℕ). RefusesMove c.self.inside.schema.shape c.args.patch.now (half_rows c.self.inside.schema.shape c.self.inside.now words) c.in_err-next.field-0.0) c.current.ensures c.in_err-next.ensures.tells) in
    search rules

pub invariant_of-self-2 : goal.invariant_of-self-2
invariant_of-self-2 c = record {
  current_half = subst (λ (words : List ℕ). IsHalf c.self.inside.schema.shape c.self.inside.now words) (sym c.in_ok-lay_moved_next.ensures.current) c.self.invariant.current_half;
  other_half = laid_half c.self.inside.schema.shape c.in_ok-next.next.half c.lay_moved_next.new.twin.other (rows_with (half_rows c.self.inside.schema.shape c.self.inside.now c.self.inside.twin.current) c.in_ok-next.next.differences)
      (subst (λ (words : List ℕ). CanLay c.self.inside.schema.shape c.in_ok-next.next.half (rows_with (half_rows c.self.inside.schema.shape c.self.inside.now words) c.in_ok-next.next.differences)) c.current.ensures c.in_ok-next.ensures.tells.can) c.in_ok-lay_moved_next.ensures.laid;
  current_long = ap (λ (words : List ℕ). length words) c.in_ok-lay_moved_next.ensures.current ∙ c.self.invariant.current_long;
  other_long = c.in_ok-lay_moved_next.ensures.laid.long;
}

pub returns-clause-exact : goal.returns-clause-exact
returns-clause-exact c =
    let told : IsMoveOf c.args.self.now.schema.shape c.args.patch.now c.args.self.now.current.rows c.in_ok-next.next =
    subst (λ (s : State). IsMoveOf s.schema.shape c.args.patch.now s.current.rows c.in_ok-next.next) c.self.view_is
    (subst (λ (words : List ℕ). IsMoveOf c.self.inside.schema.shape c.args.patch.now (half_rows c.self.inside.schema.shape c.self.inside.now words) c.in_ok-next.next) c.current.ensures c.in_ok-next.ensures.tells) in
    (λ e. (rows_with c.args.self.now.current.rows c.in_ok-next.next.differences, told.moved), λ some. inl refl)

pub returns-clause-tells : goal.returns-clause-tells
returns-clause-tells c =
    let told : IsMoveOf c.args.self.now.schema.shape c.args.patch.now c.args.self.now.current.rows c.in_ok-next.next =
    subst (λ (s : State). IsMoveOf s.schema.shape c.args.patch.now s.current.rows c.in_ok-next.next) c.self.view_is
    (subst (λ (words : List ℕ). IsMoveOf c.self.inside.schema.shape c.args.patch.now (half_rows c.self.inside.schema.shape c.self.inside.now words) c.in_ok-next.next) c.current.ensures c.in_ok-next.ensures.tells) in
    let rows = half_rows c.self.inside.schema.shape c.self.inside.now c.self.inside.twin.current in
    let words = half_rows c.self.inside.schema.shape c.in_ok-next.next.half c.lay_moved_next.new.twin.other in
    let is : words ≡ rows_with rows c.in_ok-next.next.differences = laid_rows c.self.inside.schema.shape c.in_ok-next.next.half c.lay_moved_next.new.twin.other (rows_with rows c.in_ok-next.next.differences) c.in_ok-lay_moved_next.ensures.laid in
    subst (λ (s : State). IsMovedBy c.args.self.now.schema.shape c.args.patch.now c.args.self.now.current.rows words) c.self.view_is
    (subst (IsMovedBy c.args.self.now.schema.shape c.args.patch.now c.args.self.now.current.rows) (sym (subst (λ (s : State). words ≡ rows_with s.current.rows c.in_ok-next.next.differences) c.self.view_is is)) told.moved)

pub returns-clause-laid : goal.returns-clause-laid
returns-clause-laid c =
    let readable : IsReadablePatch c.self.inside.schema.shape c.args.patch.now = subst (λ (s : State). IsReadablePatch s.schema.shape c.args.patch.now) (sym c.self.view_is) c.requires in
    laid_by c.self.inside.schema c.args.patch.now (half_in c.self.inside.schema.shape c.in_ok-next.next.half c.lay_moved_next.new.twin.other) readable c.in_ok-next.ensures.layout
