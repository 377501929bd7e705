use Rattle.schema_growth.proofs.Growths.{grown_agrees, models_agree_back}
use Rattle.schema_growth.proofs.laws.grown_agrees.Goals as goal

pub returns-clause-earlier : goal.returns-clause-earlier
returns-clause-earlier c = grown_agrees

pub returns-clause-later : goal.returns-clause-later
returns-clause-later c = λ schemas grown model grows. models_agree_back schemas grown (grown_agrees schemas grown model grows)
