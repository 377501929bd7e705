use Rattle.std.proofs.Common.{subst, arith}
use Rattle.schema_model.specs.Model.{IsModel}
use Rattle.schema_model.specs.declared.model.rule.Rule.TheVariants.{TooMany}
use Rattle.schema_model.proofs.ModelFacts.{few_schemas}
use Rattle.schema_model.proofs.model.Model.len.Goals as goal

pub overflow_cast-result : goal.overflow_cast-result
overflow_cast-result c = let few = few_schemas c.self.inside.schemas (c.self.invariant.0 TooMany) in omega arith

pub returns-clause-few : goal.returns-clause-few
returns-clause-few c = let few = few_schemas c.self.inside.schemas (c.self.invariant.0 TooMany) in omega arith

pub returns-clause-model : goal.returns-clause-model
returns-clause-model c = subst IsModel c.self.view_is c.self.invariant.0
