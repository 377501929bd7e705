use Rattle.std.proofs.Common.{arith, refl}
use Rattle.schema_model.proofs.SameLists.{same_all, same_more}
use Rattle.row_hash.proofs.same.same_values.Goals as goal

pub loop-place-preserved : goal.loop-place-preserved
loop-place-preserved c =
    same_more c.args.values.now c.args.others.now c.loop-place.place c.index-values-place.result c.index-others-place.result c.loop-place-test.true (omega (arith, c.loop-place-test.true, c.if-values-others.false))
    c.index-values-place.is c.index-others-place.is (c.same_value.ensures.0 c.if-not-same_value.false) c.loop-place.invariant

pub returns : goal.returns
returns c = (λ _. same_all c.args.values.now c.args.others.now c.loop-place.place c.if-values-others.false c.loop-place-test.false c.loop-place.invariant, λ _. refl)
