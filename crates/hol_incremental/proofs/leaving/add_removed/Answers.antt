use Rattle.std.proofs.Common.{◌+◌, ℕ, List, sym, subst, take, arith}
use Rattle.row_model.specs.declared.row.Value.{Value}
use Rattle.hol_incremental.specs.Leaves.{CountsUnfound, HasUnder}
use Rattle.hol_incremental.proofs.LeaveEntries.{leave_key, taken_keys}
use Rattle.hol_incremental.proofs.LoopLists.{one_found, one_lost}
use Rattle.hol_incremental.proofs.leaving.add_removed.Goals.{then-not-branch, else-not-branch}
use Rattle.hol_incremental.proofs.leaving.add_removed.Goals as goal

pub loop-entry-preserved : goal.loop-entry-preserved
loop-entry-preserved c =
    let keys = c.args.keys.now in
    let removes = c.args.removes.now in
    let i = c.loop-entry.entry-index in
    let item = c.entry-item.result in
    let inv = c.loop-entry.invariant in
    let inside = c.loop-entry-test.true in
    let found = c.in_ok-add_of_key.ensures.found in
    let few = inv.few in
    record {
      leaving = leave_key keys removes c.args.tops.now i item c.args.leaving.now c.loop-entry.leaving c.add_of_key.new.leaving inside c.entry-item.is inv.leaving c.in_ok-add_of_key.ensures.leaving;
      missing = elim c.if-not-branch.branch [
        | then-not-branch w ↦
            subst (λ (n : ℕ). CountsUnfound keys (take (i + 1) removes) n) (sym w.missing-is)
            (one_lost keys removes i item inside c.loop-entry.missing inv.missing (λ has. (let good = found.1 (subst (λ (key : ℕ × List Value). HasUnder keys key) (sym c.entry-item.is) has) in let bad = w.if-not-branch.true in absurd cc)))
        | else-not-branch w ↦
            subst (λ (n : ℕ). CountsUnfound keys (take (i + 1) removes) n) (sym w.missing-is)
            (one_found keys removes i item inside c.loop-entry.missing inv.missing (subst (λ (key : ℕ × List Value). HasUnder keys key) c.entry-item.is (found.0 w.if-not-branch.false)))
      ];
      few = elim c.if-not-branch.branch [
        | then-not-branch w ↦ (let e = w.missing-is in omega (arith, few, e))
        | else-not-branch w ↦ (let e = w.missing-is in omega (arith, few, e))
      ];
    }

pub returns-clause-leaving : goal.returns-clause-leaving
returns-clause-leaving c = taken_keys c.args.keys.now c.args.removes.now c.args.tops.now c.loop-entry.entry-index c.args.leaving.now c.loop-entry.leaving c.loop-entry-test.false c.loop-entry.invariant.leaving
