use Rattle.std.proofs.Common.{below_more, arith}
use Rattle.schema_model.specs.declared.model.rule.Rule.TheVariants.{TooMany}
use Rattle.model_rules.proofs.RuleTests.{kept_below, told_no}
use Rattle.schema_model.proofs.BrokenRules.{few_types}
use Rattle.model_rules.proofs.rules.check_sizes.Goals as goal

pub loop-type_index-preserved : goal.loop-type_index-preserved
loop-type_index-preserved c =
    let kept = told_no _ c.is_too_many.ensures c.if-is_too_many.false in
    (let few = few_types c.args.schemas.now c.loop-type_index.type_index (omega arith) kept in omega arith, below_more _ _ c.loop-type_index.invariant.1 kept)

pub returns-clause-tells : goal.returns-clause-tells
returns-clause-tells c = kept_below c.args.schemas.now TooMany c.loop-type_index.type_index (omega arith) c.loop-type_index.invariant.1
