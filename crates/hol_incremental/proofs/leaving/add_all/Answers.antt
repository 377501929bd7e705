use Rattle.std.proofs.Common.{◌≡◌, ◌∙◌, ℕ, List, get_or, inl, inr, sym, subst}
use Rattle.std.specs.Prelude.{Contains}
use Rattle.write_engine.proofs.Gathering.{take_whole}
use Rattle.hol_incremental.specs.Leaves.{LeaveMore}
use Rattle.hol_incremental.proofs.LeaveSteps.{leave_known, leave_next, leave_one}
use Rattle.hol_incremental.proofs.leaving.add_all.Goals.{then-not-contains+then-not-contains-2+in_ok-insert, else-not-contains, else-not-contains-via-then-not-contains+else-not-contains-2, else-not-contains-via-else-not-contains}
use Rattle.hol_incremental.proofs.leaving.add_all.Goals as goal

pub loop-ordinal-preserved : goal.loop-ordinal-preserved
loop-ordinal-preserved c =
    let xs = c.args.ordinals.now in
    let i = c.loop-ordinal.ordinal-index in
    let t = c.args.type_index in
    let tops = c.args.tops.now in
    let now = c.loop-ordinal.leaving in
    let x : ℕ × ℕ = (t, get_or xs i 0) in
    leave_next tops t xs i 0 c.args.leaving.now now c.if-not-contains.leaving c.loop-ordinal-test.true c.loop-ordinal.invariant
    (elim c.if-not-contains.branch [
      | then-not-contains+then-not-contains-2+in_ok-insert w ↦
          subst (λ (after : List (ℕ × ℕ)). LeaveMore (λ row. row ≡ x) tops now after) (sym (w.leaving-is ∙ w.in_ok-insert.ensures))
          (leave_one tops x now (λ top. (let good = c.contains.ensures.1 top in let bad = w.if-not-contains.true in absurd cc)) (λ there. (let good = w.contains-then-not-contains.ensures.1 there in let bad = w.if-not-contains-2.true in absurd cc)))
      | else-not-contains w ↦
          subst (λ (after : List (ℕ × ℕ)). LeaveMore (λ row. row ≡ x) tops now after) (sym w.leaving-is)
          (leave_known tops x now
          (elim w.else-not-contains.branch [
            | else-not-contains-via-then-not-contains+else-not-contains-2 w' ↦ inr (w'.contains-then-not-contains.ensures.0 w'.if-not-contains-2.false)
            | else-not-contains-via-else-not-contains w' ↦ inl (c.contains.ensures.0 w'.if-not-contains.false)
          ]))
    ])

pub returns : goal.returns
returns c =
    subst (λ (xs : List ℕ). LeaveMore (λ row. (row.0 ≡ c.args.type_index) × Contains xs row.1) c.args.tops.now c.args.leaving.now c.loop-ordinal.leaving) (take_whole c.args.ordinals.now c.loop-ordinal.ordinal-index c.loop-ordinal-test.false)
    c.loop-ordinal.invariant
