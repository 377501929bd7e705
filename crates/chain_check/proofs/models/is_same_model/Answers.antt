use Rattle.std.proofs.Common.{arith}
use Rattle.chain_check.proofs.ModelsApart.{same_models}
use Rattle.chain_check.proofs.models.is_same_model.Goals as goal

pub returns : goal.returns
returns c = λ _. same_models c.args.model.now c.args.other.now c.loop-type_index.type_index (omega (arith, c.if-len.false, c.len.ensures.count, c.len-2.ensures.count))
    (omega (arith, c.loop-type_index-test.false, c.len-type_index-end.ensures.count)) c.loop-type_index.invariant
