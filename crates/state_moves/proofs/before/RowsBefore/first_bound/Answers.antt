use Rattle.std.proofs.Common.{◌≡◌, ◌-◌, ◌<◌, ℕ, List, Some, None, length, ◌∙◌, subst, arith}
use Rattle.std.specs.Prelude.{IsSome, slice_get}
use Rattle.std.specs.FinMap.{get}
use Rattle.row_model.specs.Table.{RowMap}
use Rattle.state_moves.proofs.PastRows.{above_before, above_last, no_last}
use Rattle.state_moves.proofs.before.RowsBefore.first_bound.Goals as goal

pub returns-in-Some : goal.returns-in-Some
returns-in-Some c =
    let is = subst (λ (xs : List ℕ). Some c.in-Some.last.now ≡ slice_get xs (length xs - 1)) (c.as_slice.ensures ∙ c.gone.ensures) c.in-Some.ensures.value in
    subst (λ (rows : RowMap). (ordinal : ℕ) → IsSome (get rows ordinal) → ordinal < c.max.result) c.self.view_is
    (above_before c.self.inside.rows.rows c.self.inside.part.now c.bound-bound.result c.max.result c.bound-bound.ensures (omega (arith, c.max.ensures))
    (λ k inside. omega (arith, c.max.ensures, above_last c.self.inside.part.now.gone c.in-Some.last.now c.self.invariant.gone_rise is k inside)))

pub returns-in-None : goal.returns-in-None
returns-in-None c =
    let is = subst (λ (xs : List ℕ). None ≡ slice_get xs (length xs - 1)) (c.as_slice.ensures ∙ c.gone.ensures) c.in-None.ensures.value in
    subst (λ (rows : RowMap). (ordinal : ℕ) → IsSome (get rows ordinal) → ordinal < c.bound-bound.result) c.self.view_is
    (above_before c.self.inside.rows.rows c.self.inside.part.now c.bound-bound.result c.bound-bound.result c.bound-bound.ensures (omega arith)
    (λ k inside. no_last c.self.inside.part.now.gone c.bound-bound.result is k inside))
