use Rattle.std.proofs.Common.{arith, refl}
use Rattle.std.proofs.lemmas.List.{take_more_same}
use Rattle.schema_model.proofs.SameLists.{same_all}
use Rattle.row_hash.proofs.same.same_pairs.Goals as goal

pub loop-place-preserved : goal.loop-place-preserved
loop-place-preserved c =
    take_more_same c.args.pairs.now c.args.others.now c.loop-place.place _ c.loop-place-test.true (omega (arith, c.loop-place-test.true, c.if-pairs-others.false)) c.loop-place.invariant
    (c.same_pair.ensures.0 c.if-not-same_pair.false)

pub returns : goal.returns
returns c = (λ _. same_all c.args.pairs.now c.args.others.now c.loop-place.place c.if-pairs-others.false c.loop-place-test.false c.loop-place.invariant, λ _. refl)
