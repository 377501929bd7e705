use Rattle.schema_growth.proofs.Growths.{models_agree_back, shapes_agree_back}
use Rattle.schema_growth.proofs.laws.agree_both_ways.Goals as goal

pub returns-clause-schemas : goal.returns-clause-schemas
returns-clause-schemas c = λ schema other. shapes_agree_back schema.shape other.shape

pub returns-clause-models : goal.returns-clause-models
returns-clause-models c = models_agree_back
