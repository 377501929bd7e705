use Rattle.byte_laws.proofs.Schemas.{model_are}
use Rattle.byte_laws.proofs.laws.spelled_model.Goals as goal

pub returns : goal.returns
returns c = model_are
