use Rattle.std.proofs.Common.{arith, subst, sym, ap, length, get_or}
use Rattle.type_rows.specs.declared.fault.RowFault.{RowFault}
use Rattle.type_rows.specs.Patches.{places_in}
use Rattle.type_rows.specs.Fails.{FailsPlace}
use Rattle.type_state.specs.FirstFaults.{FailsAdds}
use Rattle.type_state.proofs.AddedRows.{first_failed, spelled_more}
use Rattle.type_state.proofs.added.test_rows.Goals as goal

pub loop-place-init : goal.loop-place-init
loop-place-init c = λ k inside. absurd (omega arith)

pub loop-place-preserved : goal.loop-place-preserved
loop-place-preserved c = spelled_more c.args.schema.now.shape c.args.patch.now c.loop-place.place _ c.loop-place.invariant c.in-Ok.ensures.tells

pub returns-in-Err-Bad : goal.returns-in-Err-Bad
returns-in-Err-Bad c =
    let shape = c.args.schema.now.shape in
    let patch = c.args.patch.now in
    let same = ap length c.as_slice-ordinal-items.ensures in
    let told = subst (FailsPlace shape (places_in patch) c.loop-place.place) c.in-Err-Bad.field-0-is c.in-Err-Bad.ensures.reason in
    let ordinal = get_or c.as_slice-ordinal-items.result.now c.loop-place.place 0 in
    subst (λ reason. FailsAdds shape patch (RowFault.At reason ordinal)) (sym c.in-Err-Bad.reason-is)
    (first_failed shape patch c.loop-place.place ordinal c.in-Err-Bad.reason c.loop-place.invariant (omega (arith, same, c.loop-place-test.true))
    (ap (λ ordinals. get_or ordinals c.loop-place.place 0) c.as_slice-ordinal-items.ensures) told)

pub returns : goal.returns
returns c = record { each = λ place inside. (let same = ap length c.as_slice-ordinal-items.ensures in c.loop-place.invariant place (omega (arith, same, inside, c.loop-place-test.false))) }
