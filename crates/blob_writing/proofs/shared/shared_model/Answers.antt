use Rattle.std.proofs.Common.{subst}
use Rattle.schema_model.specs.Model.{IsModel}
use Rattle.blob_writing.proofs.shared.shared_model.Goals as goal

pub returns-clause-sound : goal.returns-clause-sound
returns-clause-sound g c = subst IsModel c.model-model.ensures.model c.schemas.ensures.model
