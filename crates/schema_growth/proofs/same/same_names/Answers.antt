use Rattle.std.proofs.Common.{arith, refl}
use Rattle.schema_model.proofs.SameLists.{same_all, same_more}
use Rattle.schema_growth.proofs.same.same_names.Goals as goal

pub loop-place-preserved : goal.loop-place-preserved
loop-place-preserved c =
    same_more c.args.names.now c.args.others.now c.loop-place.place c.index-names-place.result c.index-others-place.result c.loop-place-test.true (omega (arith, c.loop-place-test.true, c.if-names-others.false))
    c.index-names-place.is c.index-others-place.is (c.same_name.ensures.0 c.if-not-same_name.false) c.loop-place.invariant

pub returns : goal.returns
returns c = (λ _. same_all c.args.names.now c.args.others.now c.loop-place.place c.if-names-others.false c.loop-place-test.false c.loop-place.invariant, λ _. refl)
