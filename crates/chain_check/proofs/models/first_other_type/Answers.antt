use Rattle.std.proofs.Common.{arith}
use Rattle.chain_check.proofs.ModelsApart.{agrees_all, agrees_more, apart_first}
use Rattle.chain_check.proofs.models.first_other_type.Goals as goal

pub loop-type_index-init : goal.loop-type_index-init
loop-type_index-init c = λ earlier below. absurd (omega (arith, below))

pub loop-type_index-preserved : goal.loop-type_index-preserved
loop-type_index-preserved c =
    agrees_more c.args.walked.now c.args.fresh.now c.loop-type_index.type_index c.schema-schema.result.now c.schema-schema.ensures.value (c.agrees_with.ensures.agree c.if-not-agrees_with.false) c.loop-type_index.invariant

pub returns-then-not-agrees_with : goal.returns-then-not-agrees_with
returns-then-not-agrees_with c =
    apart_first c.args.walked.now c.args.fresh.now c.loop-type_index.type_index c.schema-schema.result.now c.schema-schema.ensures.value (c.agrees_with.ensures.apart c.if-not-agrees_with.true) c.loop-type_index.invariant

pub returns : goal.returns
returns c = agrees_all c.args.walked.now c.args.fresh.now c.loop-type_index.type_index (omega arith) c.loop-type_index.invariant
