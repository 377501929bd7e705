use Rattle.schema_model.specs.declared.model.rule.Rule.TheVariants.{DuplicateName}
use Rattle.schema_growth.proofs.Growths.{grown_index}
use Rattle.schema_growth.proofs.laws.grown_index.Goals as goal

pub returns : goal.returns
returns c = λ schemas grown name t model grown_model. grown_index schemas grown name t (model DuplicateName) (grown_model DuplicateName)
