use Rattle.std.proofs.Common.{refl, ap, ◌∙◌, subst, take, length, arith, ◌≡◌, ℕ}
use Rattle.std.specs.Prelude.{All}
use Rattle.std.proofs.Math.Seq.{take-length}
use Rattle.std.proofs.lemmas.List.Elements.{All-more}
use Rattle.closed_rows.specs.Dangling.{IsClosedAt}
use Rattle.state_moves.proofs.closing.are_closed.Goals as goal

pub loop-ordinal-preserved : goal.loop-ordinal-preserved
loop-ordinal-preserved c =
    All-more (IsClosedAt c.args.rows.now.schemas c.args.rows.now.table c.args.type_index) c.args.ordinals.now c.loop-ordinal.ordinal-index _ c.loop-ordinal-test.true c.loop-ordinal.invariant (c.in_ok-is_closed_at.ensures.0 c.if-not-branch.false)

pub returns : goal.returns
returns c =
    let all : c.loop-ordinal.ordinal-index ≡ length c.args.ordinals.now = omega (arith, c.loop-ordinal-test.false, c.loop-ordinal.auto.ordinal-index-end) in (
      λ yes. subst (All (IsClosedAt c.args.rows.now.schemas c.args.rows.now.table c.args.type_index)) (ap (λ (n : ℕ). take n c.args.ordinals.now) all ∙ take-length c.args.ordinals.now) c.loop-ordinal.invariant,
      λ closed. refl,
    )
