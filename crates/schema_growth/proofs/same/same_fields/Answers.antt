use Rattle.std.proofs.Common.{arith, refl}
use Rattle.schema_model.proofs.SameLists.{same_all, same_more}
use Rattle.schema_growth.proofs.same.same_fields.Goals as goal

pub loop-place-preserved : goal.loop-place-preserved
loop-place-preserved c =
    same_more c.args.fields.now c.args.others.now c.loop-place.place c.index-fields-place.result c.index-others-place.result c.loop-place-test.true (omega (arith, c.loop-place-test.true, c.if-fields-others.false))
    c.index-fields-place.is c.index-others-place.is (c.same_field.ensures.0 c.if-not-same_field.false) c.loop-place.invariant

pub returns : goal.returns
returns c = (λ _. same_all c.args.fields.now c.args.others.now c.loop-place.place c.if-fields-others.false c.loop-place-test.false c.loop-place.invariant, λ _. refl)
