use Rattle.std.proofs.Common.{below_more, arith}
use Rattle.schema_model.specs.declared.model.rule.Rule.TheVariants.{DuplicateName}
use Rattle.model_rules.proofs.RuleTests.{kept_below, told_no}
use Rattle.model_rules.proofs.rules.check_names.Goals as goal

pub loop-type_index-preserved : goal.loop-type_index-preserved
loop-type_index-preserved c = below_more _ _ c.loop-type_index.invariant (told_no _ c.in_ok-has_repeated_name.ensures c.if-branch.false)

pub returns : goal.returns
returns c = kept_below c.args.schemas.now DuplicateName c.loop-type_index.type_index (omega arith) c.loop-type_index.invariant
