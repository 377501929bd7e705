use Rattle.std.proofs.Common.{◌≡◌, arith, subst, sym, ◌∙◌}
use Rattle.bit_array.specs.Element.{element_of}
use Rattle.record_copies.proofs.Gaps.{more_clear, none_clear}
use Rattle.record_copies.proofs.gap.are_clear.Goals as goal

pub loop-done-init : goal.loop-done-init
loop-done-init c = (omega arith, none_clear c.args.first.now c.args.start)

pub loop-done-preserved : goal.loop-done-preserved
loop-done-preserved c = (
  omega (arith, c.min-width.ensures),
  more_clear c.args.first.now c.args.start c.loop-done.done c.min-width.result c.loop-done.invariant.1 (sym c.element.ensures ∙ c.if-element-ne0.false),
)

pub returns : goal.returns
returns c = λ _.
    (let all : c.loop-done.done ≡ c.args.size = omega (arith, c.loop-done.invariant.0) in
    subst (λ n. element_of c.args.first.now c.args.start n ≡ 0) all c.loop-done.invariant.1)
