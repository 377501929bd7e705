use Rattle.std.proofs.Common.{inl, inr, ◌+◌, ◌≤◌, arith, get_or, subst, sym}
use Rattle.std.proofs.lemmas.Option.{slice_get-get_or}
use Rattle.type_rows.specs.Ordinals.{FailsAdded}
use Rattle.type_rows.proofs.Walks.{Walked, found_first, high_number, low_number, walked_on}
use Rattle.type_rows.proofs.ordinals.first_bad_added.Goals.{then-from-via-then-from, then-from-via-else-from+then-ordinal-places, then-from-via-else-from+else-ordinal-places+then-has}
use Rattle.type_rows.proofs.ordinals.first_bad_added.Goals as goal

pub returns-then-from : goal.returns-then-from
returns-then-from c =
    let added = c.args.added.now in
    let index = c.loop-ordinal.ordinal-index in
    let from = c.loop-ordinal.from in
    let test = FailsAdded c.args.live.now c.args.places added in
    let number = get_or added index 0 in
    let at = slice_get-get_or added index 0 (omega (arith, c.loop-ordinal-test.true)) in
    elim c.then-from.branch [
      | then-from-via-then-from w ↦
          found_first test added index from number c.loop-ordinal.invariant at (inl (low_number test added index from number c.loop-ordinal.invariant at (omega (arith, w.if-from.true, c.from.ensures))))
      | then-from-via-else-from+then-ordinal-places w ↦
          found_first test added index from number c.loop-ordinal.invariant at (inr (inl (omega (arith, w.if-ordinal-places.true))))
      | then-from-via-else-from+else-ordinal-places+then-has w ↦
          found_first test added index from number c.loop-ordinal.invariant at (inr (inr (w.has.ensures.0 w.if-has.true)))
    ]

pub loop-ordinal-preserved : goal.loop-ordinal-preserved
loop-ordinal-preserved c =
    let added = c.args.added.now in
    let index = c.loop-ordinal.ordinal-index in
    let from = c.loop-ordinal.from in
    let test = FailsAdded c.args.live.now c.args.places added in
    let number = get_or added index 0 in
    let at = slice_get-get_or added index 0 (omega (arith, c.loop-ordinal-test.true)) in
    let high : from ≤ number = omega (arith, c.if-from.false, c.from.ensures) in
    subst (λ n. Walked test added (index + 1) (n + 1)) (sym c.from-from.ensures)
    (walked_on test added index from number c.loop-ordinal.invariant at (λ fails. elim fails [
      | inl low ↦ high_number test added index from number c.loop-ordinal.invariant high low
      | inr (inl past) ↦ omega (arith, past, c.if-ordinal-places.false)
      | inr (inr live) ↦ (let has = c.has.ensures.1 live in let not = c.if-has.false in absurd cc)
    ]))
