use Rattle.std.proofs.Common.{inl, inr, ◌+◌, ◌≤◌, arith, get_or, subst, sym}
use Rattle.std.proofs.lemmas.Option.{slice_get-get_or}
use Rattle.type_rows.specs.Ordinals.{FailsRemoved}
use Rattle.type_rows.proofs.Walks.{Walked, found_first, high_number, low_number, walked_on}
use Rattle.type_rows.proofs.ordinals.first_bad_removed.Goals.{then-from-via-then-from, then-from-via-else-from+then-not-has}
use Rattle.type_rows.proofs.ordinals.first_bad_removed.Goals as goal

pub returns-then-from : goal.returns-then-from
returns-then-from c =
    let removed = c.args.removed.now in
    let index = c.loop-ordinal.ordinal-index in
    let from = c.loop-ordinal.from in
    let test = FailsRemoved c.args.live.now removed in
    let number = get_or removed index 0 in
    let at = slice_get-get_or removed index 0 (omega (arith, c.loop-ordinal-test.true)) in
    elim c.then-from.branch [
      | then-from-via-then-from w ↦
          found_first test removed index from number c.loop-ordinal.invariant at (inl (low_number test removed index from number c.loop-ordinal.invariant at (omega (arith, w.if-from.true, c.from.ensures))))
      | then-from-via-else-from+then-not-has w ↦
          found_first test removed index from number c.loop-ordinal.invariant at (inr (λ live. let has = w.has.ensures.1 live in let not = w.if-not-has.true in absurd cc))
    ]

pub loop-ordinal-preserved : goal.loop-ordinal-preserved
loop-ordinal-preserved c =
    let removed = c.args.removed.now in
    let index = c.loop-ordinal.ordinal-index in
    let from = c.loop-ordinal.from in
    let test = FailsRemoved c.args.live.now removed in
    let number = get_or removed index 0 in
    let at = slice_get-get_or removed index 0 (omega (arith, c.loop-ordinal-test.true)) in
    let high : from ≤ number = omega (arith, c.if-from.false, c.from.ensures) in
    subst (λ n. Walked test removed (index + 1) (n + 1)) (sym c.from-from.ensures)
    (walked_on test removed index from number c.loop-ordinal.invariant at (λ fails. elim fails [
      | inl low ↦ high_number test removed index from number c.loop-ordinal.invariant high low
      | inr dead ↦ (let not = c.if-not-has.false in dead (c.has.ensures.0 cc))
    ]))
