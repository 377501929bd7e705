use Rattle.std.proofs.Common.{◌∙◌, sym, refl, below_more, arith}
use Rattle.schema_model.specs.declared.model.rule.Rule.TheVariants.{LongName}
use Rattle.model_rules.proofs.RuleTests.{kept_below, long_breaks, none_long}
use Rattle.model_rules.proofs.lengths.check_lengths.Goals as goal

pub returns-then-has_long_name : goal.returns-then-has_long_name
returns-then-has_long_name c =
    (refl, long_breaks c.args.schemas.now c.loop-type_index.type_index c.get.result.now c.get.ensures (sym c.has_long_name.ensures ∙ c.if-has_long_name.true), c.loop-type_index.invariant)

pub loop-type_index-preserved : goal.loop-type_index-preserved
loop-type_index-preserved c =
    below_more _ _ c.loop-type_index.invariant (none_long c.args.schemas.now c.loop-type_index.type_index c.get.result.now c.get.ensures (sym c.has_long_name.ensures ∙ c.if-has_long_name.false))

pub returns : goal.returns
returns c = kept_below c.args.schemas.now LongName c.loop-type_index.type_index (omega arith) c.loop-type_index.invariant
