use Rattle.std.proofs.Common.{◌<◌, ◌^◌, refl, sym, arith, rules}
use Rattle.std.specs.Prelude.{All}
use Rattle.type_rows.specs.MoveFault.{FailsMove, OrdinalsPass}
use Rattle.type_state.proofs.Comings.{are_added}
use Rattle.type_state.proofs.PassedOrdinals.{addable, fails_adds, removable}
use Rattle.type_state.proofs.planning.differences_of.Goals as goal

pub returns-in-Some : goal.returns-in-Some
returns-in-Some c = c.in-Some.ensures c.args.rows.now.rows (sym c.live.ensures)

pub test_added-requires-clause-rising : goal.test_added-requires-clause-rising
test_added-requires-clause-rising c = (addable c.args.patch.now c.args.rows.now.rows (c.in_default.ensures c.args.rows.now.rows (sym c.live.ensures)).added).rise

pub test_added-requires-clause-placed : goal.test_added-requires-clause-placed
test_added-requires-clause-placed c = (addable c.args.patch.now c.args.rows.now.rows (c.in_default.ensures c.args.rows.now.rows (sym c.live.ensures)).added).placed

pub returns-in_err-test_added : goal.returns-in_err-test_added
returns-in_err-test_added c =
    let told : FailsMove c.args.schema.now.shape c.args.patch.now c.args.rows.now.rows c.in_err-test_added.field-0.0 =
    fails_adds c.args.schema.now.shape c.args.patch.now c.args.rows.now.rows c.in_err-test_added.field-0.0 (c.in_default.ensures c.args.rows.now.rows (sym c.live.ensures)) c.in_err-test_added.ensures in
    search rules

pub returns : goal.returns
returns c =
    let ordinals : OrdinalsPass c.args.patch.now c.args.rows.now.rows = c.in_default.ensures c.args.rows.now.rows (sym c.live.ensures) in
    let live = (removable c.args.patch.now c.args.rows.now.rows ordinals.removed).live in
    let small : All (λ o. o < 2 ^ 32) c.args.patch.now.removed = λ k d inside. (let low = c.bound-bound.ensures.above _ (live k d inside) in omega (arith, low, c.bound-bound.type_inv)) in
    record {
      of = refl;
      lent = refl;
      readable = c.requires;
      spelled = c.in_ok-test_added.ensures;
      small = small;
      ordinals = ordinals;
      removable = removable c.args.patch.now c.args.rows.now.rows ordinals.removed;
      addable = addable c.args.patch.now c.args.rows.now.rows ordinals.added;
      removed = refl;
      added = are_added c.args.schema.now.shape c.args.patch.now c.in_ok-test_added.ensures;
    }
