use Rattle.schema_model.specs.declared.model.rule.Rule.TheVariants.{DuplicateName}
use Rattle.schema_model.proofs.Ways as ways
use Rattle.model_paths.proofs.laws.one_path.Goals as goal

pub returns : goal.returns
returns c = λ schemas t text a b model first second. ways.one_path schemas (model DuplicateName) t text a b first second
