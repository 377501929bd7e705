use Rattle.std.proofs.Common.{subst}
use Rattle.schema_model.specs.Model.{IsModel}
use Rattle.schema_model.proofs.model.Model.schemas.Goals as goal

pub returns-clause-model : goal.returns-clause-model
returns-clause-model c = subst IsModel c.self.view_is c.self.invariant.0
