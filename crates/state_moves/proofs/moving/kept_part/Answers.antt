use Rattle.std.proofs.Common.{◌≡◌, ◌<◌, ◌-◌, ◌^◌, ◌∙◌, List, Some, ℕ, sym, subst, arith}
use Rattle.std.specs.Prelude.{All}
use Rattle.std.specs.List.{AllZip}
use Rattle.std.specs.FinMap.{get}
use Rattle.state_moves.specs.Moving.{KeepsPatch}
use Rattle.state_moves.proofs.Moves.{small_live}
use Rattle.state_moves.proofs.moving.kept_part.Goals as goal

pub narrowed-requires-2 : goal.narrowed-requires-2
narrowed-requires-2 c =
    subst (λ (os : List ℕ). All (λ o. o < 2 ^ 32) os) (sym c.as_slice-2.ensures)
    (λ k d inside. let small = small_live c.args.state.now c.bound-bound.result c.args.section.now.removed c.bound-bound.ensures (omega (arith, c.bound-bound.type_inv)) c.requires.fits.removed_live k d inside in omega (arith, small))

pub returns : goal.returns
returns c =
    let rows = c.args.state.now.current.rows in
    let gone = c.in_ok-gone.ensures ∙ c.as_slice-2.ensures in
    subst (KeepsPatch rows c.args.section.now) (sym c.new.ensures) record {
      came = c.in_ok-came.ensures ∙ c.as_slice.ensures;
      gone = gone;
      small = subst (All (λ o. o < 2 ^ 32 - 1)) (sym gone) (small_live c.args.state.now c.bound-bound.result c.args.section.now.removed c.bound-bound.ensures (omega (arith, c.bound-bound.type_inv)) c.requires.fits.removed_live);
      rows = subst (λ (os : List ℕ). AllZip (λ o row. get rows o ≡ Some row) os c.in_ok-rows.rows) c.as_slice-3.ensures c.in_ok-rows.ensures;
    }
