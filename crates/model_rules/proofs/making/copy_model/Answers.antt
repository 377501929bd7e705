use Rattle.std.proofs.Common.{◌≤◌, ◌∙◌, List, length, subst, sym}
use Rattle.schema_model.specs.Model.{IsModel}
use Rattle.schema_model.specs.declared.model.rule.Rule.TheVariants.{TooMany}
use Rattle.schema_model.specs.declared.schema.Schema.{Schema}
use Rattle.schema_model.proofs.ModelFacts.{few_schemas}
use Rattle.model_rules.proofs.making.copy_model.Goals as goal

pub index_types-requires : goal.index_types-requires
index_types-requires c =
    subst (λ (schemas : List Schema). length schemas ≤ 512) (sym (c.in_ok-schemas.ensures ∙ c.schemas.ensures.value)) (few_schemas c.args.model.now (c.schemas.ensures.model TooMany))

pub from_schemas-requires-clause-model : goal.from_schemas-requires-clause-model
from_schemas-requires-clause-model c = subst IsModel (sym (c.in_ok-schemas.ensures ∙ c.schemas.ensures.value)) c.schemas.ensures.model

pub returns : goal.returns
returns c = c.from_schemas.ensures ∙ (c.in_ok-schemas.ensures ∙ c.schemas.ensures.value)
