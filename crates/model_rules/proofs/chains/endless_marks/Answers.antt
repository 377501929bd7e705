use Rattle.std.proofs.Common.{◌≡◌, ◌∙◌, sym, ap, suc, map, ◌+◌, arith}
use Rattle.model_rules.specs.RuleTests.{chained, has_chained}
use Rattle.model_rules.proofs.ReferenceChains.{fewer_after_round, marks_same}
use Rattle.model_rules.proofs.chains.endless_marks.Goals as goal

pub returns-then-eq : goal.returns-then-eq
unfolding chained
returns-then-eq c =
    let k = c.loop-marks.invariant.0 in
    let next : c.in_ok-next.next.items ≡ chained c.args.graph.now (suc k) =
    c.in_ok-next.ensures ∙ ap (λ marks. map (has_chained marks) c.args.graph.now) (c.as_slice.ensures.value ∙ c.loop-marks.invariant.1) in (
      k,
      c.loop-marks.invariant.1,
      ap (chained c.args.graph.now) (let e : k + 1 ≡ suc k = omega arith in e) ∙ sym next
          ∙ marks_same c.in_ok-next.next.items c.loop-marks.marks.items (sym c.eq.ensures ∙ c.if-eq.true) ∙ c.loop-marks.invariant.1,
    )

pub loop-marks-smaller : goal.loop-marks-smaller
loop-marks-smaller c =
    fewer_after_round c.args.graph.now c.loop-marks.marks.items c.in_ok-next.next.items c.loop-marks.invariant.0 c.loop-marks.invariant.1
    (c.in_ok-next.ensures ∙ ap (λ marks. map (has_chained marks) c.args.graph.now) c.as_slice.ensures.value)
    (sym c.eq.ensures ∙ c.if-eq.false)

pub loop-marks-preserved : goal.loop-marks-preserved
unfolding chained
loop-marks-preserved c = (
  suc c.loop-marks.invariant.0,
  c.in_ok-next.ensures ∙ ap (λ marks. map (has_chained marks) c.args.graph.now) (c.as_slice.ensures.value ∙ c.loop-marks.invariant.1),
)
